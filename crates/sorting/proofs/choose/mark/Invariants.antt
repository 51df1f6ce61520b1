-- `sorting::choose::mark` meets its contract. At the loop's head rule i is held against the first j rules (`Stamping`).
-- Assumes nothing.
use Rattle.lists.specs.Rules.{lent}
use Rattle.sorting.proofs.Partitions.Stamps.{Stamping}
use Rattle.sorting.proofs.choose.mark.Given as goal

abbrev pub invariant-loop-j : goal.invariant-loop-j
invariant-loop-j l = Stamping (lent l.list) l.run l.i l.initial.stamps l.stamps l.j
