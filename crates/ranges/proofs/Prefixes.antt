-- Laws of a prefix's refusals and range (`specs/Prefixes.antt`): when it is refused, by 9 and by 10, and its range where it is not.
--     past_ones, within_ones           the code's test of a value against k ones
--     bounds_9_iff, bounds_10_iff      9, and 10 with its causes in `NoPrefix`
--     bounds_are                       the range
-- Assumes nothing.
use Prim.Native.Nat.{ℕ, ◌-◌, ◌%◌, ◌^◌, ◌≤◌, ◌<◌}
use mathlib.Core.Bool.{Bool, true, false, not}
use mathlib.Core.Logic.{◌⊎◌, ◌↔◌}
use mathlib.Core.Path.{◌≡◌, refl, ap}
use native.Mathlib.Omega.{arith}
use Rattle.std.specs.Prelude.{Result, Ok}
use lib.Dec.{ltb, leb, eqb}
use lib.Pow.{suc_ones}
use borrow.Author.Tests.{lt-ltb, le-ltb, ltb-true, ltb-false, le-leb, lt-leb, leb-true, eq-eqb, ne_eqb, eqb-false, not-true}
use Rattle.ranges.specs.Numbers.{pick, ◌or◌}
use Rattle.ranges.specs.Refusals.{Refusal, none, refused, unless, number_in, BadWidth, BadPrefix}
use Rattle.ranges.specs.Prefixes.{bad_width, bad_prefix, prefix_fault, bounds_at, bounds_of}
use Rattle.ranges.specs.declared.prefix.Bounds.{Bounds}
use Rattle.ranges.proofs.Numbers.{or_iff, or_neither}

-- what k ones bound from below needs more than k bits
pub past_ones : (k m x : ℕ) → m ≡ 2 ^ k - 1 → m < x → 2 ^ k ≤ x
past_ones k m x e lt = omega (arith, suc_ones k, e, lt)

pub within_ones : (k m x : ℕ) → m ≡ 2 ^ k - 1 → x ≤ m → x < 2 ^ k
within_ones k m x e le = omega (arith, suc_ones k, e, le)

-- ---- the tests of 9 and 10, in words
bad_width_iff : (w : ℕ) → (bad_width w ≡ true) ↔ ((w < 1) ⊎ (32 < w))
bad_width_iff w = or_iff (ltb w 1) (ltb 32 w) (ltb-true w 1, lt-ltb w 1) (ltb-true 32 w, lt-ltb 32 w)

good_width : (w : ℕ) → bad_width w ≡ false → (1 ≤ w) × (w ≤ 32)
good_width w e = let told = or_neither (ltb w 1) (ltb 32 w) e in (ltb-false w 1 told.0, ltb-false 32 w told.1)

bad_prefix_iff : (w value len : ℕ) → (bad_prefix w value len ≡ true) ↔ ((w < len) ⊎ (2 ^ w ≤ value) ⊎ (value % 2 ^ (w - len) ≡ 0 → ⊥))
bad_prefix_iff w value len =
    let below = value % 2 ^ (w - len) in
    or_iff (ltb w len) (leb (2 ^ w) value or not (eqb below 0)) (ltb-true w len, lt-ltb w len)
    (or_iff (leb (2 ^ w) value) (not (eqb below 0)) (leb-true (2 ^ w) value, le-leb (2 ^ w) value)
    (λ e. eqb-false below 0 (not-true (eqb below 0) e), λ set. ap not (ne_eqb below 0 set)))

-- ---- which tests led to a refusal: equal answers have the same number
same_number : {a b : Result Bounds Refusal} → a ≡ b → number_in a ≡ number_in b
same_number e = ap number_in e

-- the answer, where s is the test of 9 and t that of 10
module _ (bounds : Bounds) where
  abbrev answer_by : Bool → Bool → Result Bounds Refusal
  answer_by s t = unless (pick s (refused BadWidth) (pick t (refused BadPrefix) none)) bounds

  told_9 : (s t : Bool) → answer_by s t ≡ refused BadWidth → s ≡ true
  told_9 true t e = refl
  told_9 false true e = absurd (omega (arith, same_number e))
  told_9 false false e = absurd (omega (arith, same_number e))

  told_10 : (s t : Bool) → answer_by s t ≡ refused BadPrefix → (s ≡ false) × (t ≡ true)
  told_10 true t e = absurd (omega (arith, same_number e))
  told_10 false true e = (refl, refl)
  told_10 false false e = absurd (omega (arith, same_number e))

-- 10 applies, and 9 does not: of a width of 1 to 32, the prefix length > width, the value needs more than width bits, or a bit below the
-- prefix is set
pub record NoPrefix (w value len : ℕ) : Type 0 where
  pub some_bits : 1 ≤ w
  pub few_bits : w ≤ 32
  pub cause : (w < len) ⊎ (2 ^ w ≤ value) ⊎ (value % 2 ^ (w - len) ≡ 0 → ⊥)

module _ (w value len : ℕ) where
  pub bounds_9_iff : (bounds_of w value len ≡ refused BadWidth) ↔ ((w < 1) ⊎ (32 < w))
  unfolding prefix_fault
  bounds_9_iff =
      let test = bad_width_iff w in
      (λ e. test.0 (told_9 (bounds_at w value len) (bad_width w) (bad_prefix w value len) e), λ off. rw (test.1 off))

  pub bounds_10_iff : (bounds_of w value len ≡ refused BadPrefix) ↔ NoPrefix w value len
  unfolding prefix_fault
  bounds_10_iff =
      let test = bad_prefix_iff w value len in (
        λ e.
            let told = told_10 (bounds_at w value len) (bad_width w) (bad_prefix w value len) e in
            let width = good_width w told.0 in
            record { some_bits = width.0; few_bits = width.1; cause = test.0 told.1 },
        λ p. rw (le-ltb w 1 p.some_bits, le-ltb 32 w p.few_bits, test.1 p.cause),
      )

  -- ---- the range
  pub bounds_are : 1 ≤ w → w ≤ 32 → len ≤ w → value < 2 ^ w → value % 2 ^ (w - len) ≡ 0 → bounds_of w value len ≡ Ok (bounds_at w value len)
  unfolding prefix_fault
  bounds_are some few short narrow even =
      rw (le-ltb w 1 some, le-ltb 32 w few, le-ltb w len short, lt-leb (2 ^ w) value narrow, eq-eqb (value % 2 ^ (w - len)) 0 even)
