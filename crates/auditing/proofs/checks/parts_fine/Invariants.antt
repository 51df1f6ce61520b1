-- `auditing::checks::parts_fine` meets its contract. At the loop's head each partition below q is right.
-- Assumes nothing.
use mathlib.Core.Bool.{true}
use lib.ListN.{get_or}
use Rattle.lists.specs.Rules.{lent}
use Rattle.lists.proofs.Search.{Answered}
use Rattle.tables.specs.Layout.{view, b_at}
use Rattle.auditing.specs.Checks.{part_fine}
use Rattle.auditing.proofs.checks.parts_fine.Given as goal

abbrev pub invariant-loop-q : goal.invariant-loop-q
invariant-loop-q l = Answered (part_fine (lent l.list) (view l.table.room l.table.d l.table.numbers.now)) true (get_or l.table.numbers.now b_at 0) l.q
