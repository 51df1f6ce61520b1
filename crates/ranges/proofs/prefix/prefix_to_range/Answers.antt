-- `ranges::prefix::prefix_to_range` meets its contract: at each way out the tests that led there give the law of that answer. A mask
-- of the ones below the prefix tells whether a bit is set there, and or-ing it gives the high end.
-- Assumes nothing.
use Prim.Native.Nat.{◌-◌}
use mathlib.Core.Logic.{inl, inr}
use mathlib.Core.Path.{sym, ap, ◌∙◌}
use Rattle.std.specs.Prelude.{Err, Ok}
use Rattle.ranges.proofs.Widths.{masked, masked_or}
use Rattle.ranges.proofs.Prefixes.{past_ones, within_ones, bounds_9_iff, bounds_10_iff, bounds_are}
use Rattle.ranges.proofs.prefix.prefix_to_range.Goals as goal

-- 9: no bit
pub returns-then-width-lt1 : goal.returns-then-width-lt1
returns-then-width-lt1 c = ap Err c.refuse.ensures ∙ sym ((bounds_9_iff _ _ _).1 (inl c.if-width-lt1.true))

-- 9: more than 32 bits
pub returns-then-width-gt32 : goal.returns-then-width-gt32
returns-then-width-gt32 c = ap Err c.refuse-then-width-gt32.ensures ∙ sym ((bounds_9_iff _ _ _).1 (inr c.if-width-gt32.true))

-- 10: a prefix longer than the width
pub returns-then-width-length : goal.returns-then-width-length
returns-then-width-length c =
    ap Err c.refuse-then-width-length.ensures
    ∙ sym ((bounds_10_iff _ _ _).1 (record { some_bits = c.if-width-lt1.false; few_bits = c.if-width-gt32.false; cause = inl c.if-width-length.true }))

-- 10: a value of more bits
pub returns-then-low_ones-value : goal.returns-then-low_ones-value
returns-then-low_ones-value c =
    let wide = past_ones _ _ _ c.low_ones.ensures c.if-low_ones-value.true in
    ap Err c.refuse-then-low_ones-value.ensures
    ∙ sym ((bounds_10_iff _ _ _).1 (record { some_bits = c.if-width-lt1.false; few_bits = c.if-width-gt32.false; cause = inr (inl wide) }))

-- 10: a bit below the prefix
pub returns-then-value-below-ne0 : goal.returns-then-value-below-ne0
returns-then-value-below-ne0 c =
    let a = c.args in
    let mask = masked a.value (a.width - a.length) _ c.low_ones-below.ensures in
    ap Err c.refuse-then-value-below-ne0.ensures
    ∙ sym ((bounds_10_iff _ _ _).1 (record { some_bits = c.if-width-lt1.false; few_bits = c.if-width-gt32.false; cause = inr (inr (λ even. c.if-value-below-ne0.true (mask ∙ even))) }))

-- the range
pub returns : goal.returns
returns c =
    let a = c.args in
    let k = a.width - a.length in
    ap (λ high. Ok (record { low = a.value; high = high })) (masked_or a.value k _ c.low_ones-below.ensures c.if-value-below-ne0.false)
    ∙ sym
    (bounds_are _ _ _ c.if-width-lt1.false c.if-width-gt32.false c.if-width-length.false (within_ones _ _ _ c.low_ones.ensures c.if-low_ones-value.false)
    (sym (masked a.value k _ c.low_ones-below.ensures) ∙ c.if-value-below-ne0.false))
