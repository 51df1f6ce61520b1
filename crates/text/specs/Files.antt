-- 01, The program: a file is lines that end in CRLF, the last CRLF optional. 13 is CR and 10 is LF.
-- A line ends at CRLF and nowhere else: a lone CR or LF is a byte of its line (reading 7).
-- `lines_of` cuts a whole file into its lines. `step` and `finish` say the same byte by byte, as the code goes, of any
-- reader that has something to do for a byte of a line and for a line's end; that the two agree is `file_is` of
-- `proofs/Files.antt`.
-- Assumes nothing: these are definitions.
use Rattle.std.specs.Prelude.{ℕ, suc, Bool, true, false, List, [], ◌∷◌, eqb}
use Rattle.ranges.specs.Numbers.{pick, ◌and◌}
use Rattle.text.specs.Cells.{fed}
use Rattle.text.specs.Rows.{in_front}

-- ---- a whole file
-- the lines of a file; what follows the last CRLF, if anything, is a last line
abbrev pub lines_of : List ℕ → List (List ℕ)
lines_of [] = []
lines_of (b ∷ []) = (b ∷ []) ∷ []
lines_of (b ∷ c ∷ bs) = pick (eqb b 13 and eqb c 10) ([] ∷ lines_of bs) (in_front b (lines_of (c ∷ bs)))

-- ---- byte by byte
-- a reader's state, and whether the last byte was a CR of which it is not known yet whether it ends the line
pub record InFile (X : Type 0) : Type 0 where
  pub cr : Bool
  pub at : X

abbrev pub in_file : {X : Type 0} → Bool → X → InFile X
in_file t x = record { cr = t; at = x }

-- a byte where no CR waits: a CR waits, any other byte is one of the line
unfoldable pub plain : {X : Type 0} → (X → ℕ → X) → X → ℕ → InFile X
plain byte x b = pick (eqb b 13) (in_file true x) (in_file false (byte x b))

-- a byte that does not end the line: a CR that waited is a byte of the line
unfoldable pub open_byte : {X : Type 0} → (X → ℕ → X) → InFile X → ℕ → InFile X
open_byte byte s b = pick s.cr (plain byte (byte s.at 13) b) (plain byte s.at b)

-- a byte ends the line: LF, where a CR waits
unfoldable pub ends_line : Bool → ℕ → Bool
ends_line cr b = cr and eqb b 10

-- one byte of a file, for a reader that does `byte` for a byte of a line and `close` for a line's end
unfoldable pub step : {X : Type 0} → (X → ℕ → X) → (X → X) → InFile X → ℕ → InFile X
step byte close s b = pick (ends_line s.cr b) (in_file false (close s.at)) (open_byte byte s b)

-- how many bytes there are up to the end of the present line, LF counted, and all where it does not end in them
unfoldable pub line_in : Bool → List ℕ → ℕ
line_in cr [] = 0
line_in cr (b ∷ bs) = pick (ends_line cr b) 1 (suc (line_in (eqb b 13) bs))

-- the present line ends in these bytes
unfoldable pub ends_in : Bool → List ℕ → Bool
ends_in cr [] = false
ends_in cr (b ∷ bs) = pick (ends_line cr b) true (ends_in (eqb b 13) bs)

-- a CR that nothing follows is a byte of the line
abbrev pub settled : {X : Type 0} → (X → ℕ → X) → InFile X → X
settled byte s = pick s.cr (byte s.at 13) s.at

-- the end of the present line, where a byte of it has come
unfoldable pub last_line : {X : Type 0} → (X → X) → (X → Bool) → X → X
last_line close begun x = pick (begun x) (close x) x

-- the file's end
unfoldable pub finish : {X : Type 0} → (X → ℕ → X) → (X → X) → (X → Bool) → InFile X → X
finish byte close begun s = last_line close begun (settled byte s)

-- ---- line by line
-- whole lines one after the other
abbrev pub over_lines : {X : Type 0} → (X → ℕ → X) → (X → X) → (X → Bool) → X → List (List ℕ) → X
over_lines byte close begun x [] = last_line close begun x
over_lines byte close begun x (l ∷ ls) = over_lines byte close begun (close (fed byte x l)) ls
