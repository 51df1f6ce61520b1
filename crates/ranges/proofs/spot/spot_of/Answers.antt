-- `ranges::spot::spot_of` meets its contract: at each way out the tests that led there are the facts of that outcome.
-- Assumes nothing.
use mathlib.Core.Path.{sym}
use native.Mathlib.Omega.{arith}
use Rattle.ranges.proofs.Spots.{sits_below, sits_above, sits_both, sits_low, sits_high, sits_between, spot_is}
use Rattle.ranges.proofs.spot.spot_of.Goals as goal

-- below
pub returns-then-x-range : goal.returns-then-x-range
returns-then-x-range c = sym (spot_is (sits_below c.if-x-range.true))

-- above
pub returns-then-range-x : goal.returns-then-range-x
returns-then-range-x c = sym (spot_is (sits_above c.if-x-range.false c.if-range-x.true))

-- at both ends
pub returns-then-next-range : goal.returns-then-next-range
returns-then-next-range c = sym (spot_is (sits_both c.if-x-range-2.true c.if-next-range.true))

-- at the low end
pub returns-then-x-range-2 : goal.returns-then-x-range-2
returns-then-x-range-2 c = sym (spot_is (sits_low c.if-x-range-2.true (omega arith)))

-- at the high end
pub returns-then-next-range-2 : goal.returns-then-next-range-2
returns-then-next-range-2 c = sym (spot_is (sits_high (omega arith) c.if-next-range-2.true))

-- strictly between
pub returns : goal.returns
returns c = sym (spot_is (sits_between (omega arith) (omega arith)))
