-- `lists::scan::fits_at` meets its contract. At the loop's head every field below f is inside (`Search.antt`).
-- Assumes nothing.
use mathlib.Core.Bool.{true}
use Rattle.lists.specs.Rules.{lent}
use Rattle.lists.specs.FirstMatch.{inside_at}
use Rattle.lists.proofs.Search.{Answered}
use Rattle.lists.proofs.scan.fits_at.Given as goal

abbrev pub invariant-loop-f : goal.invariant-loop-f
invariant-loop-f l = Answered (inside_at (lent l.list) l.header l.i) true l.list.shape.d l.f
