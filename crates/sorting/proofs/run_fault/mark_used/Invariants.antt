-- `sorting::run_fault::mark_used` meets its contract. At the loop's head the numbers before q are marked (`Seen`).
-- Assumes nothing.
use Rattle.sorting.specs.FirstFit.{part_of}
use Rattle.sorting.specs.Asked.{Seen}
use Rattle.sorting.proofs.run_fault.mark_used.Given as goal

abbrev pub invariant-loop-q : goal.invariant-loop-q
invariant-loop-q l = Seen (part_of l.run) l.q-index l.marks
