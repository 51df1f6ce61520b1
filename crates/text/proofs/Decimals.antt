-- Laws of a number's digits (`specs/Decimals.antt`): the digits of n below 10 are one, those of any other are the digits of
-- n / 10 and then the last. How far `digits_from` may count does not matter once it is above n.
--     decimal_one, decimal_more      the digits of a number
--     decimal_short                  how many they are at most
--     decimal_read                   read back they are the number
-- Assumes nothing.
use Prim.Native.Nat.{ℕ, zero, suc, ◌+◌, ◌-◌, ◌*◌, ◌/◌, ◌%◌, ◌^◌, ◌≤◌, ◌<◌}
use mathlib.Core.Bool.{Bool, true, false}
use mathlib.Core.List.{[], ◌∷◌, ◌++◌}
use mathlib.Core.Path.{◌≡◌, refl, sym, ap, ◌∙◌}
use native.Mathlib.Omega.{arith}
use borrow.Author.Tests.{lt-ltb, le-ltb, ltb-true, ltb-false}
use lib.Dec.{ltb}
use lib.ListN.{length, length-append}
use Rattle.text.specs.Cells.{fed, with_digit, with_byte, whole_cell}
use Rattle.text.specs.declared.cell.Cell.TheVariants.{Empty, Number}
use Rattle.text.specs.Decimals.{spelled, digits_from, decimal_of}
use Rattle.text.proofs.Feeding.{fed_append}
use Rattle.text.proofs.Cells.{digit_empty, digit_more, byte_digit, cell_is}

-- any two counts above n give the same digits
digits_same : (j k n : ℕ) → n < j → n < k → digits_from j n ≡ digits_from k n
digits_same zero k n lt lt' = absurd (omega arith)
digits_same (suc j) zero n lt lt' = absurd (omega arith)
digits_same (suc j) (suc k) n lt lt' = go (ltb n 10) refl (digits_same j k (n / 10))
  where
    go : (t : Bool) → ltb n 10 ≡ t → (n / 10 < j → n / 10 < k → digits_from j (n / 10) ≡ digits_from k (n / 10))
        → spelled t n (λ m. digits_from j m) ≡ spelled t n (λ m. digits_from k m)
    go true e follow = refl
    go false e follow =
        let large = ltb-false n 10 e in
        ap (λ ds. ds ++ ((48 + n % 10) ∷ [])) (follow (omega arith) (omega arith))

pub decimal_one : (n : ℕ) → n < 10 → decimal_of n ≡ (48 + n) ∷ []
unfolding decimal_of
decimal_one n lt = rw (lt-ltb n 10 lt)

pub decimal_more : (n : ℕ) → 10 ≤ n → decimal_of n ≡ decimal_of (n / 10) ++ ((48 + n % 10) ∷ [])
unfolding decimal_of
decimal_more n le =
    let less : n / 10 < n = omega arith in
    let less' : n / 10 < suc (n / 10) = omega arith in
    rw (le-ltb n 10 le) (ap (λ ds. ds ++ ((48 + n % 10) ∷ [])) (digits_same n (suc (n / 10)) (n / 10) less less'))

-- a number below 10 to the k has at most k digits
pub decimal_short : (k n : ℕ) → n < 10 ^ suc k → length (decimal_of n) ≤ suc k
decimal_short zero n small = rw (decimal_one n small) (omega arith)
decimal_short (suc k) n small = go (ltb n 10) refl (decimal_short k (n / 10))
  where
    go : (t : Bool) → ltb n 10 ≡ t → (n / 10 < 10 ^ suc k → length (decimal_of (n / 10)) ≤ suc k) → length (decimal_of n) ≤ suc (suc k)
    go true e follow = rw (decimal_one n (ltb-true n 10 e)) (omega arith)
    go false e follow =
        let large = ltb-false n 10 e in
        let short = follow (omega arith) in
        rw (decimal_more n large, length-append) (omega arith)

-- ---- read back
-- the first digit, and one more
read_one : (n : ℕ) → n < 10 → with_byte Empty (48 + n) ≡ Number n
read_one n lt =
    let low : 48 ≤ 48 + n = omega arith in
    let high : 48 + n ≤ 57 = omega arith in
    let same : 48 + n - 48 ≡ n = omega arith in
    byte_digit Empty (48 + n) low high ∙ digit_empty Empty (48 + n - 48) refl ∙ ap Number same

read_more : (v x : ℕ) → 0 < v → x < 10 → v * 10 + x ≤ 4294967295 → with_byte (Number v) (48 + x) ≡ Number (v * 10 + x)
read_more v x pos lt small =
    let low : 48 ≤ 48 + x = omega arith in
    let high : 48 + x ≤ 57 = omega arith in
    let same : 48 + x - 48 ≡ x = omega arith in
    byte_digit (Number v) (48 + x) low high ∙ ap (with_digit (Number v)) same ∙ digit_more (Number v) v x refl (λ e. omega arith) small

read-fed : (k n : ℕ) → n < k → n ≤ 4294967295 → fed with_byte Empty (decimal_of n) ≡ Number n
read-fed zero n lt small = absurd (omega arith)
read-fed (suc k) n lt small = go (ltb n 10) refl (read-fed k (n / 10))
  where
    go : (t : Bool) → ltb n 10 ≡ t → (n / 10 < k → n / 10 ≤ 4294967295 → fed with_byte Empty (decimal_of (n / 10)) ≡ Number (n / 10))
        → fed with_byte Empty (decimal_of n) ≡ Number n
    go true e follow = rw (decimal_one n (ltb-true n 10 e)) (read_one n (ltb-true n 10 e))
    go false e follow =
        let large = ltb-false n 10 e in
        let pos : 0 < n / 10 = omega arith in
        let digit : n % 10 < 10 = omega arith in
        let same : n / 10 * 10 + n % 10 ≡ n = omega arith in
        let first : fed with_byte Empty (decimal_of (n / 10)) ≡ Number (n / 10) = follow (omega arith) (omega arith) in
        rw (decimal_more n large) (fed_append with_byte Empty (decimal_of (n / 10)) ((48 + n % 10) ∷ []))
        ∙ ap (λ cell. with_byte cell (48 + n % 10)) first
        ∙ read_more (n / 10) (n % 10) pos digit (omega arith)
        ∙ ap Number same

-- the digits of a number, read as a cell, are the number
pub decimal_read : (n : ℕ) → n ≤ 4294967295 → whole_cell (decimal_of n) ≡ Number n
decimal_read n small = sym (cell_is (decimal_of n)) ∙ read-fed (suc n) n (omega arith) small
