-- `ranges::expand::range_fault` meets its contract: at each way out the tests that led there give the law of that refusal.
-- Assumes nothing.
use mathlib.Core.Path.{sym, ap, ◌∙◌}
use Rattle.std.specs.Prelude.{Err}
use Rattle.ranges.proofs.Prefixes.{past_ones, within_ones}
use Rattle.ranges.proofs.RangeFaults.{range_9_few, range_9_many, range_11_order, range_11_high, range_stands}
use Rattle.ranges.proofs.expand.range_fault.Goals as goal

-- 9: no bit
pub returns-then-width-lt1 : goal.returns-then-width-lt1
returns-then-width-lt1 c = ap Err c.refuse.ensures ∙ sym (range_9_few _ _ _ c.if-width-lt1.true)

-- 9: more than 32 bits
pub returns-then-width-gt32 : goal.returns-then-width-gt32
returns-then-width-gt32 c = ap Err c.refuse-then-width-gt32.ensures ∙ sym (range_9_many _ _ _ c.if-width-lt1.false c.if-width-gt32.true)

-- 11: low > high
pub returns-then-high-low : goal.returns-then-high-low
returns-then-high-low c =
    ap Err c.refuse-then-high-low.ensures ∙ sym (range_11_order _ _ _ c.if-width-lt1.false c.if-width-gt32.false c.if-high-low.true)

-- 11: high needs more bits
pub returns-then-low_ones-high : goal.returns-then-low_ones-high
returns-then-low_ones-high c =
    ap Err c.refuse-then-low_ones-high.ensures
    ∙ sym (range_11_high _ _ _ c.if-width-lt1.false c.if-width-gt32.false c.if-high-low.false (past_ones _ _ _ c.low_ones.ensures c.if-low_ones-high.true))

-- neither
pub returns : goal.returns
returns c =
    sym (range_stands _ _ _ c.if-width-lt1.false c.if-width-gt32.false c.if-high-low.false (within_ones _ _ _ c.low_ones.ensures c.if-low_ones-high.false))
