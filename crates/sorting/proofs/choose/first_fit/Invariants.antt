-- `sorting::choose::first_fit` meets its contract. At the loop's head the first i rules have first fit's numbers (`Choosing`).
-- Assumes nothing.
use Rattle.lists.specs.Rules.{lent}
use Rattle.sorting.proofs.Partitions.Choosing.{Choosing}
use Rattle.sorting.proofs.choose.first_fit.Given as goal

abbrev pub invariant-loop-i : goal.invariant-loop-i
invariant-loop-i l = Choosing (lent l.list) l.chosen l.stamps l.i
