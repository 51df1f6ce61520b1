-- `words::part::narrow` meets its contract. At the loop's head the first i numbers are written.
-- Assumes nothing.
use Rattle.words.proofs.Narrowing.{Narrowed}
use Rattle.words.proofs.part.narrow.Given as goal

abbrev pub invariant-loop-i : goal.invariant-loop-i
invariant-loop-i l = Narrowed l.numbers l.table l.i
