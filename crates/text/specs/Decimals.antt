-- A number as text: 01, The program, prints plain decimals without leading zeros.
-- That the digits read back are the number is `decimal_read` of `proofs/Decimals.antt`.
-- Assumes nothing: these are definitions.
use Rattle.std.specs.Prelude.{ℕ, zero, suc, ◌+◌, ◌/◌, ◌%◌, Bool, true, false, List, [], ◌∷◌, ◌++◌, ltb}

-- a digit alone, or what stands before the last digit and then that
abbrev pub spelled : Bool → ℕ → (ℕ → List ℕ) → List ℕ
spelled true n rest = (48 + n) ∷ []
spelled false n rest = rest (n / 10) ++ ((48 + n % 10) ∷ [])

-- the digits of a number below 10 to the k
abbrev pub digits_from : ℕ → ℕ → List ℕ
digits_from zero n = []
digits_from (suc k) n = spelled (ltb n 10) n (λ m. digits_from k m)

-- the digits of a number, the first not 0 but for 0 itself (250 is 50 53 48)
unfoldable pub decimal_of : ℕ → List ℕ
decimal_of n = digits_from (suc n) n
