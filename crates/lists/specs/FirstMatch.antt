-- First match: source 004, Section III, as 01, Lists and headers, fixes it. A rule fits a header when in all d
-- fields low ≤ number ≤ high, or of a date low ≤ number < high (02, W8); the first match is the smallest rule number that fits.
-- A header is a list of its eight numbers; only the first d are read.
-- Assumes nothing: these are definitions.
use Rattle.std.specs.Prelude.{ℕ, Bool, List, get_or}
use Rattle.ranges.specs.Numbers.{all, least}
use Rattle.ranges.specs.Sides.{side_of, is_inside}
use Rattle.ranges.specs.declared.side.Side.{Side}
use Rattle.lists.specs.Rules.{Rules, fields_of, rules_in, low_of, ends_at}

-- the range test of the header's number in field f against rule i
abbrev pub side_at : Rules → List ℕ → ℕ → ℕ → Side
side_at R h i f = side_of (low_of R i f) (ends_at R i f) (get_or h f 0)

-- the header's number in field f is inside rule i's range
abbrev pub inside_at : Rules → List ℕ → ℕ → ℕ → Bool
inside_at R h i f = is_inside (side_at R h i f)

-- rule i fits the header: inside in all d fields
unfoldable pub fits : Rules → List ℕ → ℕ → Bool
fits R h i = all (fields_of R) (inside_at R h i)

-- the smallest rule number that fits, and n where none does
unfoldable pub first_match : Rules → List ℕ → ℕ
first_match R h = least (rules_in R) (fits R h)
