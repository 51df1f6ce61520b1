-- The answers that the check does not find alone.
use Rattle.lists.proofs.Meeting.{pair_both, pair_none}
use Rattle.lists.proofs.independence.least_pair.Goals as goal

-- a pair
pub returns-in-Some : goal.returns-in-Some
returns-in-Some c =
    pair_both _ _ c.loop-i.invariant c.in-Some.ensures (rw c.rules_in-n.ensures at c.loop-i-test.true)

-- no rule has a partner
pub returns : goal.returns
returns c = pair_none _ _ c.loop-i.invariant (rw c.rules_in-n.ensures at c.loop-i-test.false)
