-- The answers that the check does not find alone.
use Rattle.lists.proofs.Rules.{has_field}
use Rattle.lists.proofs.Search.{answered_found, answered_nothing}
use Rattle.lists.proofs.check.void_field.Goals as goal

pub void_at-requires : goal.void_at-requires
void_at-requires c = has_field c.requires c.loop-f-test.true

-- the first void field
pub returns-then-void_at : goal.returns-then-void_at
returns-then-void_at c = answered_found c.loop-f.invariant c.loop-f-test.true c.void_at.ensures c.if-void_at.true

-- none is
pub returns : goal.returns
returns c = answered_nothing c.loop-f.invariant c.loop-f-test.false
