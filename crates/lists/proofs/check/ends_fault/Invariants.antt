-- `lists::check::ends_fault` meets its contract. At the loop's head no rule below i has a void field (`Search.antt`).
-- Assumes nothing.
use mathlib.Core.Bool.{false}
use Rattle.lists.specs.Rules.{lent, rules_in}
use Rattle.lists.proofs.Search.{Answered}
use Rattle.lists.proofs.Voids.{bad}
use Rattle.lists.proofs.check.ends_fault.Given as goal

abbrev pub invariant-loop-i : goal.invariant-loop-i
invariant-loop-i l = Answered (bad (lent l.list)) false (rules_in (lent l.list)) l.i
