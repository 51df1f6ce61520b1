-- The answers that the check does not find alone.
use Rattle.lists.specs.FirstMatch.{first_match}
use Rattle.lists.proofs.Rules.{has_rule}
use Rattle.lists.proofs.Search.{answered_found, answered_nothing}
use Rattle.lists.proofs.scan.first_match.Goals as goal

pub fits_at-requires : goal.fits_at-requires
fits_at-requires c = has_rule c.requires (rw c.rules_in-i-end.ensures at c.loop-i-test.true)

-- a rule that fits
pub returns-then-fits_at : goal.returns-then-fits_at
unfolding first_match
returns-then-fits_at c =
    answered_found c.loop-i.invariant (rw c.rules_in-i-end.ensures at c.loop-i-test.true) c.fits_at.ensures c.if-fits_at.true

-- none does
pub returns : goal.returns
unfolding first_match
returns c = answered_nothing c.loop-i.invariant (rw c.rules_in-i-end.ensures at c.loop-i-test.false)
