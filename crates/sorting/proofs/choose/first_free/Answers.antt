-- The answers that the check does not find alone.
use mathlib.Core.Bool.{not}
use mathlib.Core.Path.{refl, ap, ◌∙◌}
use native.Mathlib.Numerals.{add-one}
use native.Mathlib.Omega.{arith}
use borrow.Author.Tests.{ne_eqb}
use Rattle.lists.proofs.Search.{answered-least, answered_end}
use Rattle.sorting.specs.Marks.{unstamped}
use Rattle.sorting.proofs.choose.first_free.Goals as goal

-- a partition without the stamp
pub returns-then-stamps-q : goal.returns-then-stamps-q
unfolding unstamped
returns-then-stamps-q c = answered-least c.loop-q.invariant (omega arith) refl (ap not (ne_eqb _ _ c.if-stamps-q.true))

-- all of them have it
pub returns : goal.returns
unfolding unstamped
returns c = add-one _ ∙ answered_end c.loop-q.invariant (omega arith)
