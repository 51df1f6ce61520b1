-- 01, Lists and headers: a header is eight 32-bit numbers held by value. The definitions above take any list of numbers as a header and
-- read its first d alone; what is said of every header holds of those that are eight numbers of 32 bits.
-- Assumes nothing: these are definitions.
use Rattle.std.specs.Prelude.{ℕ, ◌^◌, ◌<◌, List, ◌≡◌, length, get_or, replicate}

-- how many numbers a header has
abbrev pub header_length : ℕ
header_length = 8

-- the header of zeros
abbrev pub zeros : List ℕ
zeros = replicate header_length 0

-- eight numbers of 32 bits
pub record IsHeader (h : List ℕ) : Type 0 where
  pub eight : length h ≡ header_length
  pub words : (f : ℕ) → f < header_length → get_or h f 0 < 2 ^ 32
