-- 01, Lists and headers: the range test, whose outcomes are tried in the order below, above, inside.
-- A range is its low and the first number past it: the test, void and meeting know nothing of how a range ends.
-- `end_of` and `closed_at` alone say that a range low to high is closed at both ends, and `past_of` that a range of dates is not (02,
-- W8). Contracts above cite `side_of`; proofs use its laws (`proofs/Sides.antt`) and do not unfold it.
-- Assumes nothing: these are definitions.
use Rattle.std.specs.Prelude.{ℕ, ◌+◌, Bool, true, false, ltb, leb}
use Rattle.ranges.specs.Numbers.{◌and◌}
use Rattle.ranges.specs.Spots.{spot_of}
use Rattle.ranges.specs.declared.side.Range.{Range}
use Rattle.ranges.specs.declared.side.Side.{Side}
use Rattle.ranges.specs.declared.side.Side.TheVariants.{Below, Above, Inside}
use Rattle.ranges.specs.declared.spot.Spot.{Spot}
use Rattle.ranges.specs.declared.spot.Spot.TheVariants.{Below as AtBelow, AtLow, Between, AtHigh, AtBoth, Above as AtAbove}

-- the first number past a range that ends at high
unfoldable pub end_of : ℕ → ℕ
end_of high = high + 1

-- the range low to high, both counted
abbrev pub closed_at : ℕ → ℕ → Range
closed_at low high = record { low = low; past = end_of high }

-- the first number past a rule's range that ends at high, of dates or not: a date's high is the due day, which is no valid day
-- (of dates 5-9, 8 is the last day and 9 is past; of others, 9 is the last number)
unfoldable pub past_of : Bool → ℕ → ℕ
past_of true high = high
past_of false high = end_of high

-- a rule's range
abbrev pub range_of : Bool → ℕ → ℕ → Range
range_of date low high = record { low = low; past = past_of date high }

-- the side that a spot is on: all but below and above are inside
abbrev pub side_in : Spot → Side
side_in AtBelow = Below
side_in AtLow = Inside
side_in Between = Inside
side_in AtHigh = Inside
side_in AtBoth = Inside
side_in AtAbove = Above

-- x is below where it is less than low, else above where it is not before past, else inside
-- (250 is above 200-249 and inside 200-299; of 5-3, 4 is below, 5 above, and nothing inside)
unfoldable pub side_of : ℕ → ℕ → ℕ → Side
side_of low past x = side_in (spot_of low past x)

-- the range holds no number
abbrev pub void_of : ℕ → ℕ → Bool
void_of low past = leb past low

-- the low of each of two ranges is before the other's end
-- (0-9 and 9-12 meet; 0-9 and 10-12 do not)
abbrev pub meet_of : ℕ → ℕ → ℕ → ℕ → Bool
meet_of low past low' past' = ltb low past' and ltb low' past

-- the outcome is inside
abbrev pub is_inside : Side → Bool
is_inside Below = false
is_inside Above = false
is_inside Inside = true
