-- `auditing::checks::from_in` meets its contract: the number stands in the table.
-- Assumes nothing.
use mathlib.Core.Path.{ap}
use borrow.Author.Rules.{rules}
use lib.ListN.{get_or}
use Rattle.auditing.proofs.Checking.{cell_from}
use Rattle.auditing.proofs.checks.from_in.Goals as goal

pub offset_bounds-table-from_at : goal.offset_bounds-table-from_at
offset_bounds-table-from_at c = let here = cell_from c.requires c.from_at.ensures in search rules

pub bounds-table-from_at : goal.bounds-table-from_at
bounds-table-from_at c = cell_from c.requires c.from_at.ensures

pub returns : goal.returns
returns c =
    ap (λ k. get_or c.args.table.now.numbers.now k 0) c.from_at.ensures
