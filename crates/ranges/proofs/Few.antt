-- How many prefixes a range has (T4), once for every width w: at most 2w - 2 for w ≥ 2, and 1 for w = 1.
-- The argument. Take off the largest block, of exponent e. Where its double would not be aligned, what is left starts at a multiple of
-- 2 ^ (e + 1): the exponents climb (`Climbs`). Where its double would go past the range, fewer than 2 ^ e numbers are left, and they start
-- at a multiple of 2 ^ e: the exponents fall from there (`Falls`). Climbing takes the exponents 0 to w - 2 once at most, and so does falling.
-- Assumes nothing.
use Prim.Native.Nat.{ℕ, zero, suc, ◌+◌, ◌-◌, ◌*◌, ◌%◌, ◌^◌, ◌≤◌, ◌<◌}
use mathlib.Core.Bool.{Bool, true, false}
use mathlib.Core.List.{List, ◌∷◌}
use mathlib.Core.Path.{◌≡◌, refl, sym, ap, ◌∙◌}
use native.Mathlib.Omega.{arith}
use mathlib.Core.Logic.{⊎_elim, ◌⊎◌, inl, inr}
use native.Mathlib.Nat.{lt_of_not-le, not-le_of_lt, eq-or-lt_of_le, mod-eq_of_lt, zero-mod, mod-one, zero-add}
use lib.ListN.{length}
use lib.Dec.{ltb}
use lib.Pow.{pow_pos, pow_mono}
use borrow.Author.Tests.{ltb-true, ltb-false}
use Rattle.ranges.specs.Sides.{end_of}
use Rattle.ranges.specs.Blocks.{Prefix, Ranged, block_of, prefixes_of}
use Rattle.ranges.proofs.Sides.{past_high}
use Rattle.ranges.proofs.Widths.{aligned_fewer, aligned_on, aligned_less, pow_more}
use Rattle.ranges.proofs.Blocks.{fits_yes, block_at, block_largest}
use Rattle.ranges.proofs.Expansion.{first_of, next_of, prefixes_done, prefixes_more}
use Rattle.ranges.proofs.Cover.{prefixes_ind}

-- one of two orders holds
lt_or_le : (a b : ℕ) → (a < b) ⊎ (b ≤ a)
lt_or_le a b = go (ltb a b) refl
  where
    go : (t : Bool) → ltb a b ≡ t → (a < b) ⊎ (b ≤ a)
    go true e = inl (ltb-true a b e)
    go false e = inr (ltb-false a b e)

-- a smaller power has a smaller exponent
pub pow_under : (i j : ℕ) → 2 ^ i < 2 ^ j → i < j
pow_under i j lt = lt_of_not-le (λ le. not-le_of_lt lt (pow_mono le))

-- a multiple of p that is not 0 is p at least
multiple_least : (x p : ℕ) → 0 < x → x % p ≡ 0 → p ≤ x
multiple_least x p some even =
    ⊎_elim (λ lt. absurd (omega (arith, mod-eq_of_lt lt, even))) (λ le. le) (lt_or_le x p)

-- the range ends within the width
module _ (w high : ℕ) (end : end_of high ≤ 2 ^ w) where
  -- from low, a multiple of 2 ^ t, fewer than 2 ^ t numbers are left: at most t prefixes
  abbrev Falls : ℕ → List Prefix → Type 0
  Falls low ps = (t : ℕ) → low % 2 ^ t ≡ 0 → end_of high < low + 2 ^ t → length ps ≤ t

  -- from low, a multiple of 2 ^ t and not 0: at most 2w - 2 - t
  abbrev Climbs : ℕ → List Prefix → Type 0
  Climbs low ps = 0 < low → (t : ℕ) → t < w → low % 2 ^ t ≡ 0 → length ps + t + 2 ≤ w * 2

  -- the double of the largest block is not both aligned and within the range
  module _ (low : ℕ) (within : low < end_of high) where
    double_fails : low % 2 ^ (block_of w low high + 1) ≡ 0 → low + 2 ^ (block_of w low high + 1) ≤ end_of high → ⊥
    double_fails even stays =
        let e = block_of w low high in
        let narrow : 2 ^ e < 2 ^ w = omega (arith, pow_more e, pow_pos e) in
        let over = block_largest w low high within (e + 1) (omega (arith, pow_under e w narrow)) (fits_yes low high (e + 1) even stays) in
        omega (arith, over)

    -- what is left after the largest block, where its double goes past the range
    rest-falls : (ps : List Prefix) → Falls (next_of w low high) ps → end_of high < low + 2 ^ (block_of w low high + 1) → length ps ≤ block_of w low high
    rest-falls ps falls past =
        let e = block_of w low high in
        falls e (aligned_on low e (block_at w low high within).0) (omega (arith, pow_more e))

    falls_more : (ps : List Prefix) → Falls (next_of w low high) ps → Falls low (first_of w low high ∷ ps)
    falls_more ps falls t even short =
        let e = block_of w low high in
        let fits = block_at w low high within in
        let under : e < t = pow_under e t (omega (arith, fits.1, short)) in
        let past : end_of high < low + 2 ^ (e + 1) =
        lt_of_not-le (λ stays. double_fails (aligned_fewer low (e + 1) t (omega arith) even) stays) in
        omega (arith, rest-falls ps falls past)

    -- a multiple of 2 ^ (w - 1) that is not 0 is half the width at least, so its block reaches the end
    top_done : (ps : List Prefix) → Falls (next_of w low high) ps → 0 < low → block_of w low high + 1 ≡ w → length ps ≤ 0
    top_done ps falls some is-top =
        let e = block_of w low high in
        let half : 2 ^ e ≤ low = multiple_least low (2 ^ e) some (block_at w low high within).0 in
        let top : 2 ^ w ≡ 2 ^ e * 2 = ap (λ k. 2 ^ k) (sym is-top) ∙ pow_more e in
        falls 0 (mod-one (next_of w low high)) (omega arith)

    -- the block's exponent is below the width
    below_width : 0 < low → block_of w low high < w
    below_width some = pow_under (block_of w low high) w (omega (arith, (block_at w low high within).1, end))

    -- the double goes past the range: from here the exponents fall
    climbs_past : 2 ≤ w → (ps : List Prefix) → Falls (next_of w low high) ps → 0 < low → (t : ℕ) → t ≤ block_of w low high
        → end_of high < low + 2 ^ (block_of w low high + 1) → suc (length ps) + t + 2 ≤ w * 2
    climbs_past wide ps falls some t le past =
        let e = block_of w low high in
        ⊎_elim
        (λ (is-top : e + 1 ≡ w). omega (arith, top_done ps falls some is-top))
        (λ (lt : e + 1 < w). omega (arith, rest-falls ps falls past))
        (eq-or-lt_of_le (omega (arith, below_width some)))

    -- the double is not aligned: the next block starts at a multiple of it
    climbs_on : (ps : List Prefix) → Climbs (next_of w low high) ps → 0 < low → (t : ℕ) → t ≤ block_of w low high
        → low + 2 ^ (block_of w low high + 1) ≤ end_of high → suc (length ps) + t + 2 ≤ w * 2
    climbs_on ps climbs some t le stays =
        let e = block_of w low high in
        let odd : low % 2 ^ (e + 1) ≡ 0 → ⊥ = λ even. double_fails even stays in
        let under : e + 1 < w = pow_under (e + 1) w (omega (arith, end)) in
        omega (arith, climbs (omega arith) (e + 1) under (aligned_less low e (block_at w low high within).0 odd))

    climbs_more : 2 ≤ w → (ps : List Prefix) → Falls (next_of w low high) ps → Climbs (next_of w low high) ps → Climbs low (first_of w low high ∷ ps)
    climbs_more wide ps falls climbs some t under even =
        ⊎_elim
        (λ short. omega (arith, falls_more ps falls t even short))
        (λ long.
        let le : t ≤ block_of w low high = block_largest w low high within t (omega arith) (fits_yes low high t even long) in
        ⊎_elim
        (λ past. climbs_past wide ps falls some t le past)
        (λ stays. climbs_on ps climbs some t le stays)
        (lt_or_le (end_of high) (low + 2 ^ (block_of w low high + 1))))
        (lt_or_le (end_of high) (low + 2 ^ t))

  -- both, of all prefixes
  falls_climbs : 2 ≤ w → (low : ℕ) → Falls low (prefixes_of w low high) × Climbs low (prefixes_of w low high)
  falls_climbs wide =
      prefixes_ind w high (λ low ps. Falls low ps × Climbs low ps) (λ low past. (λ t even short. omega arith, λ some t under even. omega arith))
      (λ low ps within both. (falls_more low within ps both.0, climbs_more low within wide ps both.0 both.1))

-- ---- the bound
-- a range whose first block reaches its end has one prefix
one_block : (w low high : ℕ) → low < end_of high → end_of high ≤ next_of w low high → length (prefixes_of w low high) ≡ 1
one_block w low high within past =
    ap length (prefixes_more w low high within) ∙ ap (λ ps. suc (length ps)) (prefixes_done w (next_of w low high) high past)

-- a range ends within its width
ends : {w low high : ℕ} → Ranged w low high → end_of high ≤ 2 ^ w
ends {w} {low} {high} r = past_high high (2 ^ w) r.narrow

-- the whole of w bits is one block
whole_one : {w high : ℕ} → Ranged w 0 high → 2 ^ w ≤ end_of high → length (prefixes_of w 0 high) ≡ 1
whole_one {w} {high} r all =
    let fits = block_largest w 0 high r.ordered w (omega arith) (fits_yes 0 high w (zero-mod (2 ^ w)) (omega (arith, zero-add (2 ^ w)))) in
    one_block w 0 high r.ordered (omega (arith, ends r, pow_mono fits))

-- T4: at most 2w - 2 prefixes for w ≥ 2
pub few_prefixes : {w low high : ℕ} → Ranged w low high → 2 ≤ w → length (prefixes_of w low high) ≤ w * 2 - 2
few_prefixes {w} {low} {high} r wide = go low r (falls_climbs w high (ends r) wide low)
  where
    go : (s : ℕ) → Ranged w s high → Falls w high (ends r) s (prefixes_of w s high) × Climbs w high (ends r) s (prefixes_of w s high)
        → length (prefixes_of w s high) ≤ w * 2 - 2
    go zero z both =
        ⊎_elim
        (λ short. omega (arith, both.0 w (zero-mod (2 ^ w)) (omega (arith, zero-add (2 ^ w)))))
        (λ all. omega (arith, whole_one z all))
        (lt_or_le (end_of high) (2 ^ w))
    go (suc s) z both = omega (arith, both.1 (omega arith) 0 (omega arith) (mod-one (suc s)))

-- and exactly one for w = 1 (source 000's 2(w - 1) fails there)
pub one_prefix : {low high : ℕ} → Ranged 1 low high → length (prefixes_of 1 low high) ≡ 1
one_prefix {low} {high} r = go low r
  where
    go : (s : ℕ) → Ranged 1 s high → length (prefixes_of 1 s high) ≡ 1
    go zero z =
        ⊎_elim
        (λ short. one_block 1 0 high z.ordered (omega (arith, pow_pos (block_of 1 0 high))))
        (λ all. whole_one z all)
        (lt_or_le (end_of high) 2)
    go (suc s) z = one_block 1 (suc s) high z.ordered (omega (arith, ends z, pow_pos (block_of 1 (suc s) high)))
