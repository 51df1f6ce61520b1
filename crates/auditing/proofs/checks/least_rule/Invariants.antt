-- `auditing::checks::least_rule` meets its contract. At the loop's head least is the smallest rule number of the places before p (`Lowest`).
-- Assumes nothing.
use Rattle.tables.specs.Layout.{order_in}
use Rattle.auditing.proofs.Minimum.{Lowest}
use Rattle.auditing.proofs.checks.least_rule.Given as goal

abbrev pub invariant-loop-p : goal.invariant-loop-p
invariant-loop-p l = Lowest l.table.room (order_in l.table.numbers.now) l.s l.e l.p l.least
