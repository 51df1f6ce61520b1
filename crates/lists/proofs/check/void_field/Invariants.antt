-- `lists::check::void_field` meets its contract. At the loop's head no field below f is void (`Search.antt`).
-- Assumes nothing.
use mathlib.Core.Bool.{false}
use Rattle.lists.specs.Rules.{lent, is_void}
use Rattle.lists.proofs.Search.{Answered}
use Rattle.lists.proofs.check.void_field.Given as goal

abbrev pub invariant-loop-f : goal.invariant-loop-f
invariant-loop-f l = Answered (is_void (lent l.list) l.i) false l.list.shape.d l.f
