-- The answers that the check does not find alone.
use Rattle.lists.specs.Independence.{meet}
use Rattle.lists.proofs.Rules.{has_field}
use Rattle.lists.proofs.Search.{answered-all, answered-not}
use Rattle.lists.proofs.independence.meet_all.Goals as goal

pub meet_at-requires : goal.meet_at-requires
meet_at-requires c =
    (has_field c.requires.0 c.loop-f-test.true, has_field c.requires.1 c.loop-f-test.true)

-- a field in which they do not meet
pub returns-then-not-meet_at : goal.returns-then-not-meet_at
unfolding meet
returns-then-not-meet_at c = answered-not c.loop-f.invariant c.loop-f-test.true c.meet_at.ensures c.if-not-meet_at.true

-- they meet in all
pub returns : goal.returns
unfolding meet
returns c = answered-all c.loop-f.invariant c.loop-f-test.false
