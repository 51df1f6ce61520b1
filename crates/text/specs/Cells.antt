-- 01, The program: a cell is a plain decimal without quotes or leading zeros, 0 to 4294967295.
-- `whole_cell` says what a whole cell's bytes come to. `with_byte` says the same byte by byte, as the code goes; that the
-- two agree is `cell_is` of `proofs/Cells.antt`.
-- Assumes nothing: these are definitions.
use Rattle.std.specs.Prelude.{ℕ, ◌+◌, ◌-◌, ◌*◌, Bool, true, false, not, List, [], ◌∷◌, ltb, leb, eqb}
use Rattle.ranges.specs.Numbers.{pick, ◌and◌}
use Rattle.text.specs.declared.cell.Cell.{Cell}
use Rattle.text.specs.declared.cell.Cell.TheVariants.{Empty, Number, Bad}

-- what bytes do one after the other
abbrev pub fed : {A : Type 0} → (A → ℕ → A) → A → List ℕ → A
fed step s [] = s
fed step s (b ∷ bs) = fed step (step s b) bs

-- ---- a whole cell
-- a decimal digit: 48 is 0, 57 is 9
unfoldable pub is_digit : ℕ → Bool
is_digit b = leb 48 b and leb b 57

-- every byte is a digit
abbrev pub all_digits : List ℕ → Bool
all_digits [] = true
all_digits (b ∷ bs) = is_digit b and all_digits bs

-- a zero in front of another byte
abbrev pub leading_zero : List ℕ → Bool
leading_zero [] = false
leading_zero (b ∷ []) = false
leading_zero (b ∷ c ∷ bs) = eqb b 48

-- the number that digits stand for, where those before them stand for v
abbrev pub value_from : ℕ → List ℕ → ℕ
value_from v [] = v
value_from v (b ∷ bs) = value_from (v * 10 + (b - 48)) bs

abbrev pub value_of : List ℕ → ℕ
value_of bs = value_from 0 bs

-- digits without a leading zero, 0 to 4294967295
abbrev pub readable : List ℕ → Bool
readable bs = all_digits bs and not (leading_zero bs) and leb (value_of bs) 4294967295

-- what a cell's bytes come to ("7" is 7; "", "07", "+7", " 7", "4294967296" are no numbers)
abbrev pub whole_cell : List ℕ → Cell
whole_cell [] = Empty
whole_cell (b ∷ bs) = pick (readable (b ∷ bs)) (Number (value_of (b ∷ bs))) Bad

-- it is a number
abbrev pub is_number : Cell → Bool
is_number Empty = false
is_number (Number v) = true
is_number Bad = false

-- ---- byte by byte
-- with one digit more: nothing may follow a zero, and the number stays within 4294967295
unfoldable pub with_digit : Cell → ℕ → Cell
with_digit Empty x = Number x
with_digit (Number v) x = pick (eqb v 0) Bad (pick (ltb 4294967295 (v * 10 + x)) Bad (Number (v * 10 + x)))
with_digit Bad x = Bad

-- with one byte more
unfoldable pub with_byte : Cell → ℕ → Cell
with_byte cell b = pick (ltb b 48) Bad (pick (ltb 57 b) Bad (with_digit cell (b - 48)))
