-- `lists::range::once_asked` meets its contract: where no flag is set the range is no range of dates.
-- Assumes nothing.
use mathlib.Core.Path.{◌∙◌}
use Rattle.lists.proofs.Dates.{plain_range}
use Rattle.lists.proofs.range.once_asked.Goals as goal

-- no dates
pub returns-then-shape-eq0 : goal.returns-then-shape-eq0
returns-then-shape-eq0 c =
    let a = c.args in
    c.closed.ensures ∙ plain_range a.shape a.f _ _ c.if-shape-eq0.true
