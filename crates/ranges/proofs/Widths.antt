-- What shifts and masks do, once for every width and every number of bits.
--     shifted_one                    1 shifted by k is 2 ^ k, where k is below the width of the machine's number
--     masked, masked_or              a mask of k ones gives the rest modulo 2 ^ k; or-ing it fills up an aligned number
--     aligned_fewer                  what is aligned to 2 ^ k is aligned to each smaller power
--     aligned_on, aligned_less       a block after an aligned one; half a block after what is not aligned to the whole
--     pow_more                       twice a power is the next
-- Assumes nothing.
use Prim.Native.Nat.{ℕ, zero, suc, ◌+◌, ◌-◌, ◌*◌, ◌/◌, ◌%◌, ◌^◌, ◌≤◌, ◌<◌}
use mathlib.Core.Path.{◌≡◌, sym, ap, ◌∙◌, subst}
use native.Mathlib.Omega.{arith}
use native.Mathlib.Nat.{one-mul, zero-mul, zero-mod, mod-eq_of_lt, mod-lt, mod_self, mod-add-mod, add-mod_right, pow-suc, div-add-mod', mul-le-mul_right, sub-add_cancel, add_comm}
use native.Mathlib.Numerals.{add-one}
use lib.Pow.{pow_pos, pow-lt, mod-mod-pow}
use lib.Bits.{bit_and, bit_or, and_mask, or_disjoint}

pub shifted_one : (k W : ℕ) → k < W → (1 * 2 ^ k) % 2 ^ W ≡ 2 ^ k
shifted_one k W lt = rw (one-mul (2 ^ k)) (mod-eq_of_lt (pow-lt lt))

pub masked : (x k m : ℕ) → m ≡ 2 ^ k - 1 → bit_and x m ≡ x % 2 ^ k
masked x k m e = rw e (and_mask x k)

pub masked_or : (x k m : ℕ) → m ≡ 2 ^ k - 1 → bit_and x m ≡ 0 → bit_or x m ≡ x + (2 ^ k - 1)
masked_or x k m e none = or_disjoint x m none ∙ ap (λ j. x + j) e

pub pow_more : (k : ℕ) → 2 ^ (k + 1) ≡ 2 ^ k * 2
pow_more k = rw (add-one k) (pow-suc 2 k)

pub aligned_fewer : (x j k : ℕ) → j ≤ k → x % 2 ^ k ≡ 0 → x % 2 ^ j ≡ 0
aligned_fewer x j k le e =
    let split : k - j + j ≡ k = sub-add_cancel le in
    sym (mod-mod-pow x (k - j) j) ∙ ap (λ i. x % 2 ^ i % 2 ^ j) split ∙ ap (λ i. i % 2 ^ j) e ∙ zero-mod (2 ^ j)

pub aligned_on : (x k : ℕ) → x % 2 ^ k ≡ 0 → (x + 2 ^ k) % 2 ^ k ≡ 0
aligned_on x k e = add-mod_right x (2 ^ k) ∙ e

-- the one multiple of p below 2p that is not 0 is p
only_multiple : (p r : ℕ) → r % p ≡ 0 → r < p * 2 → (r ≡ 0 → ⊥) → r ≡ p
only_multiple p r e lt ne = go (r / p) (div-add-mod' r p)
  where
    go : (q : ℕ) → q * p + r % p ≡ r → r ≡ p
    go zero z = absurd (ne (omega (arith, zero-mul p)))
    go (suc zero) z = omega (arith, one-mul p)
    go (suc (suc q)) z = absurd (omega (arith, mul-le-mul_right {m = 2} {n = suc (suc q)} p (omega arith)))

-- aligned to 2 ^ k and not to twice that: half a block before what is
pub aligned_less : (x k : ℕ) → x % 2 ^ k ≡ 0 → (x % 2 ^ (k + 1) ≡ 0 → ⊥) → (x + 2 ^ k) % 2 ^ (k + 1) ≡ 0
aligned_less x k e ne =
    let r = x % 2 ^ (k + 1) in
    let r-aligned : r % 2 ^ k ≡ 0 = ap (λ i. x % 2 ^ i % 2 ^ k) (add_comm k 1) ∙ mod-mod-pow x 1 k ∙ e in
    let r-below : r < 2 ^ k * 2 = subst (λ i. r < i) (pow_more k) (mod-lt x (pow_pos (k + 1))) in
    let is-half : r ≡ 2 ^ k = only_multiple (2 ^ k) r r-aligned r-below ne in
    sym (mod-add-mod x (2 ^ (k + 1)) (2 ^ k)) ∙ ap (λ i. (i + 2 ^ k) % 2 ^ (k + 1)) is-half
    ∙ ap (λ i. i % 2 ^ (k + 1)) (omega (arith, pow_more k)) ∙ mod_self (2 ^ (k + 1))
