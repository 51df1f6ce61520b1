-- The answers that the check does not find alone.
use Rattle.lists.proofs.Rules.{has_rule}
use Rattle.lists.proofs.Meeting.{sought_met, sought_end}
use Rattle.lists.proofs.independence.partner_of.Goals as goal

pub meet_all-requires : goal.meet_all-requires
meet_all-requires c =
    let s = c.requires.0 in
    (has_rule s (rw c.requires.1 at c.requires.2), has_rule s (rw c.requires.1 at c.loop-j-test.true))

-- a rule that meets rule i
pub returns-then-meet_all : goal.returns-then-meet_all
returns-then-meet_all c =
    sought_met _ _ c.loop-j.invariant (rw c.requires.1 at c.loop-j-test.true) c.meet_all.ensures c.if-meet_all.true

-- none does
pub returns : goal.returns
returns c = sought_end _ _ c.loop-j.invariant (rw c.requires.1 at c.loop-j-test.false)
