-- `auditing::checks::rules_fine` meets its contract. At the loop's head the rules of the first p places are marked (`Marked`).
-- Assumes nothing.
use Rattle.tables.specs.Layout.{order_in}
use Rattle.auditing.proofs.Checking.{Marked}
use Rattle.auditing.proofs.checks.rules_fine.Given as goal

abbrev pub invariant-loop-p : goal.invariant-loop-p
invariant-loop-p l = Marked l.table.room (order_in l.table.numbers.now) l.marks l.p
