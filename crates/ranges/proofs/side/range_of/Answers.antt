-- `ranges::side::range_of` meets its contract: of dates, nothing comes past high.
-- Assumes nothing.
use Rattle.ranges.proofs.Sides.{past_date, past_other}
use Rattle.ranges.proofs.side.range_of.Goals as goal

-- dates
pub returns-then-date : goal.returns-then-date
returns-then-date c = rw (c.if-date.true, past_date)

-- others
pub returns : goal.returns
returns c = rw (c.if-date.false, past_other) c.closed.ensures
