-- `answers::count::counted` meets its contract, way by way.
-- Assumes nothing.
use mathlib.Core.Path.{◌∙◌}
use native.Mathlib.Omega.{arith}
use Rattle.answers.proofs.Counts.{up_is, counted_fine, counted_none, counted_first, counted_later}
use Rattle.answers.proofs.count.counted.Goals as goal

pub returns-in_default : goal.returns-in_default
returns-in_default c = rw c.in_default.is (counted_fine _ (c.saturating_add-lines.ensures ∙ up_is _ (omega arith)))

pub returns-in-Some-refused : goal.returns-in-Some-refused
returns-in-Some-refused c =
    rw c.in-Some.is
    (counted_later _ (c.saturating_add-lines.ensures ∙ up_is _ (omega arith)) _ _ c.in-Some-refused.is (λ e. omega arith) (c.saturating_add.ensures ∙ up_is _ (omega arith)))

pub returns-in_default-refused : goal.returns-in_default-refused
returns-in_default-refused c =
    rw c.in-Some.is
    (counted_first _ (c.saturating_add-lines.ensures ∙ up_is _ (omega arith)) _ _ c.in-Some-refused.is (omega arith))

pub returns-in_default-refused-2 : goal.returns-in_default-refused-2
returns-in_default-refused-2 c = rw c.in-Some.is (counted_none _ (c.saturating_add-lines.ensures ∙ up_is _ (omega arith)) _ c.in_default-refused.is)
