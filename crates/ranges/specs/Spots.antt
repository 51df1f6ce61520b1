-- 02, W2: the single range test, which tells a number at an end of a range from one between its ends. Its outcomes are tried in the
-- order below, above, at both ends, at the low end, at the high end, strictly between.
-- A range is its low and the first number past it, as in `Sides.antt`: at the high end x + 1 is that number, and nothing is said of how a
-- range ends. Contracts above cite `spot_of`; proofs use its laws (`proofs/Spots.antt`) and do not unfold it.
-- Assumes nothing: these are definitions.
use Rattle.std.specs.Prelude.{ℕ, ◌+◌, Bool, true, false, ltb, leb, eqb}
use Rattle.ranges.specs.Numbers.{pick}
use Rattle.ranges.specs.declared.spot.Spot.{Spot}
use Rattle.ranges.specs.declared.spot.Spot.TheVariants.{Below, AtLow, Between, AtHigh, AtBoth, Above}

-- the spot of a number inside a range, by whether it is low and whether it is the last number
abbrev pub spot_inside : Bool → Bool → Spot
spot_inside true true = AtBoth
spot_inside true false = AtLow
spot_inside false true = AtHigh
spot_inside false false = Between

-- where x lies as against low and the first number past the range
-- (of 200-249, 200 is at the low end, 249 at the high end and 250 above; of 7-7, 7 is at both; of 5-3, 4 is below and 5 above)
unfoldable pub spot_of : ℕ → ℕ → ℕ → Spot
spot_of low past x = pick (ltb x low) Below (pick (leb past x) Above (spot_inside (eqb x low) (eqb (x + 1) past)))

-- the spot is at an end
abbrev pub at_end : Spot → Bool
at_end Below = false
at_end AtLow = true
at_end Between = false
at_end AtHigh = true
at_end AtBoth = true
at_end Above = false
