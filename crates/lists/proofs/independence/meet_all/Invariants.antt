-- `lists::independence::meet_all` meets its contract. At the loop's head the rules meet in every field below f (`Search.antt`).
-- Assumes nothing.
use mathlib.Core.Bool.{true}
use Rattle.lists.specs.Rules.{lent}
use Rattle.lists.specs.Independence.{meet_at}
use Rattle.lists.proofs.Search.{Answered}
use Rattle.lists.proofs.independence.meet_all.Given as goal

abbrev pub invariant-loop-f : goal.invariant-loop-f
invariant-loop-f l = Answered (meet_at (lent l.list) l.i l.j) true l.list.shape.d l.f
