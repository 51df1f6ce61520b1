-- What a machine's counts of zeros say of powers of two, once for every word width W; and the largest aligned block by them.
--     trailing_iff             2 ^ t divides x exactly where x ends in t zeros or more, for t up to W; 0 ends in W
--     leading_iff              2 ^ t is at most m exactly where t and the zeros before m are fewer than W, for an m that is not 0
--     leading_less             a number that is not 0 has fewer zeros before it than digits
--     rest                     how many numbers a range has
--     block_zeros              the largest aligned block is the smaller of the two counts
-- Assumes nothing.
use Prim.Native.Nat.{ℕ, zero, suc, min, ◌+◌, ◌-◌, ◌*◌, ◌/◌, ◌%◌, ◌^◌, ◌≤◌, ◌<◌, zero-le}
use mathlib.Core.Bool.{true}
use mathlib.Core.Path.{◌≡◌, sym, ap, ◌∙◌}
use mathlib.Core.Logic.{◌↔◌}
use native.Mathlib.Omega.{arith}
use native.Mathlib.Nat.{mod-one, le_trans, le_antisymm, le_of_suc-le-suc, lt_of_le_of_lt, min-le_left, min-le_right, le-min}
use native.Mathlib.Numerals.{add-one}
use lib.Pow.{pow_mono, pow-lt, mod-pow-add}
use lib.Count.{count_trailing_zeros, count_leading_zeros, under, leading_top, leading_le}
use Rattle.ranges.specs.Sides.{end_of}
use Rattle.ranges.specs.Blocks.{block_fits, block_of, Ranged}
use Rattle.ranges.proofs.Sides.{past_high, within_high}
use Rattle.ranges.proofs.Blocks.{fits_yes, block_at, block_narrow, block_largest}
use Rattle.ranges.proofs.Few.{pow_under}

-- ---- trailing zeros
-- the lowest digit of a rest, and those above it
lowest-apart : (x t : ℕ) → x % 2 ^ suc t ≡ x / 2 % 2 ^ t * 2 + x % 2
lowest-apart x t = ap (λ k. x % 2 ^ k) (sym (add-one t)) ∙ mod-pow-add x t 1

-- a digit r below: what ends in t zeros exactly where q is 0 ends in one more exactly where q * 2 + r is
digit_iff : (r q t z : ℕ) → (q ≡ 0) ↔ (t ≤ z) → (q * 2 + r ≡ 0) ↔ (suc t ≤ under r z)
digit_iff zero q t z above = (
  λ e. let le : t ≤ z = above.0 (omega arith) in omega arith,
  λ le. let none : q ≡ 0 = above.1 (omega arith) in omega arith,
)
digit_iff (suc r) q t z above = (λ e. absurd (omega arith), λ le. absurd (omega arith))

pub trailing_iff : (W t x : ℕ) → t ≤ W → (x % 2 ^ t ≡ 0) ↔ (t ≤ count_trailing_zeros W x)
unfolding count_trailing_zeros
trailing_iff W zero x le = (λ e. zero-le, λ none. mod-one x)
trailing_iff zero (suc t) x le = absurd (omega arith)
trailing_iff (suc W) (suc t) x le =
    rw (lowest-apart x t) (digit_iff (x % 2) (x / 2 % 2 ^ t) t (count_trailing_zeros W (x / 2)) (trailing_iff W t (x / 2) (omega arith)))

-- ---- leading zeros
pub leading_iff : (W m t : ℕ) → 0 < m → m < 2 ^ W → (2 ^ t ≤ m) ↔ (t + count_leading_zeros W m < W)
leading_iff W m t some few =
    let top = leading_top W m some few in (
      λ le. let below : t < suc top.0 = pow_under t (suc top.0) (lt_of_le_of_lt le top.3) in omega (arith, top.1),
      λ lt. le_trans (pow_mono (omega (arith, top.1))) top.2,
    )

pub leading_less : (k x : ℕ) → count_leading_zeros (suc k) (x + 1) ≤ k
unfolding count_leading_zeros
leading_less k x = rw (add-one x) (leading_le k (suc x / 2))

-- ---- the largest aligned block
-- how many numbers low to high has
abbrev pub rest : ℕ → ℕ → ℕ
rest low high = high - low + 1

module _ {w low high : ℕ} (r : Ranged w low high) where
  rest_is : rest low high ≡ end_of high - low
  rest_is = omega (arith, r.ordered, within_high high high (omega arith), past_high high (high + 1) (omega arith))

  -- no more than there are numbers of w bits
  rest_most : rest low high ≤ 2 ^ w
  rest_most = omega (arith, rest_is, past_high high (2 ^ w) r.narrow)

  -- so a power of two among them has at most w bits
  within_width : (t : ℕ) → 2 ^ t ≤ rest low high → t ≤ w
  within_width t le = le_of_suc-le-suc (pow_under t (suc w) (lt_of_le_of_lt (le_trans le rest_most) (pow-lt (omega arith))))

-- counted in words of W bits, more than the range has
module _ {w low high : ℕ} (r : Ranged w low high) (W : ℕ) (wide : w < W) where
  rest_iff : (t : ℕ) → (2 ^ t ≤ rest low high) ↔ (t + count_leading_zeros W (rest low high) < W)
  rest_iff t = leading_iff W (rest low high) t (omega arith) (lt_of_le_of_lt (rest_most r) (pow-lt wide))

  -- the two counts, and the smaller one
  abbrev aligned : ℕ
  aligned = count_trailing_zeros W low

  abbrev within : ℕ
  within = W - 1 - count_leading_zeros W (rest low high)

  abbrev smaller : ℕ
  smaller = min aligned within

  -- a block of that size fits
  smaller-within : 2 ^ smaller ≤ rest low high
  smaller-within = (rest_iff smaller).1 (omega (arith, min-le_right aligned within, (rest_iff 0).0 (omega arith)))

  smaller-fits : block_fits low high smaller ≡ true
  smaller-fits =
      fits_yes low high smaller
      ((trailing_iff W smaller low (omega (arith, min-le_right aligned within))).1 (min-le_left aligned within))
      (omega (arith, rest_is r, smaller-within, r.ordered))

  -- and none that fits is larger
  block_smaller : block_of w low high ≤ smaller
  block_smaller =
      let t = block_of w low high in
      let at = block_at w low high r.ordered in
      let narrow : t ≤ W = omega (arith, block_narrow w low high r.ordered) in
      le-min ((trailing_iff W t low narrow).0 at.0) (omega (arith, (rest_iff t).0 (omega (arith, rest_is r, at.1))))

  pub block_zeros : block_of w low high ≡ min (count_trailing_zeros W low) (W - 1 - count_leading_zeros W (rest low high))
  block_zeros =
      le_antisymm block_smaller
      (block_largest w low high r.ordered smaller (within_width r smaller smaller-within) smaller-fits)
