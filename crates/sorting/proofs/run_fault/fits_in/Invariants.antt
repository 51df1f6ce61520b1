-- `sorting::run_fault::fits_in` meets its contract. At the loop's head rule i is apart from each rule below j.
-- Assumes nothing.
use mathlib.Core.Bool.{true}
use Rattle.lists.specs.Rules.{lent}
use Rattle.lists.proofs.Search.{Answered}
use Rattle.sorting.specs.Brought.{is_apart}
use Rattle.sorting.proofs.run_fault.fits_in.Given as goal

abbrev pub invariant-loop-j : goal.invariant-loop-j
invariant-loop-j l = Answered (is_apart (lent l.list) l.run l.i) true l.i l.j
