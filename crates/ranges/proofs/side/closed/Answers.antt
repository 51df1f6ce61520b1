-- `ranges::side::closed` meets its contract: past high comes high + 1.
-- Assumes nothing.
use borrow.Author.Rules.{rules}
use Rattle.ranges.specs.Sides.{end_of}
use Rattle.ranges.proofs.side.closed.Goals as goal

pub returns : goal.returns
unfolding end_of
returns c = search rules
