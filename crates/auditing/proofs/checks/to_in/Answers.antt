-- `auditing::checks::to_in` meets its contract: the number stands in the table.
-- Assumes nothing.
use mathlib.Core.Path.{ap}
use borrow.Author.Rules.{rules}
use lib.ListN.{get_or}
use Rattle.auditing.proofs.Checking.{cell_to}
use Rattle.auditing.proofs.checks.to_in.Goals as goal

pub offset_bounds-table-to_at : goal.offset_bounds-table-to_at
offset_bounds-table-to_at c = let here = cell_to c.requires c.to_at.ensures in search rules

pub bounds-table-to_at : goal.bounds-table-to_at
bounds-table-to_at c = cell_to c.requires c.to_at.ensures

pub returns : goal.returns
returns c =
    ap (λ k. get_or c.args.table.now.numbers.now k 0) c.to_at.ensures
