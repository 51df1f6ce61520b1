-- `ranges::side::side_of` meets its contract: the side is the one that the number's spot is on.
-- Assumes nothing.
use mathlib.Core.Path.{ap, ◌∙◌}
use Rattle.ranges.specs.Sides.{side_in, side_of}
use Rattle.ranges.proofs.side.side_of.Goals as goal

pub returns : goal.returns
unfolding side_of
returns c = c.side_in.ensures ∙ ap side_in c.spot_of.ensures
