-- The answers that the check does not find alone.
use native.Mathlib.Omega.{arith}
use Rattle.lists.specs.Edges.{edge_of}
use Rattle.lists.proofs.Rules.{has_field}
use Rattle.lists.proofs.Search.{answered_one, answered_none_of}
use Rattle.lists.proofs.edge.edge_at.Goals as goal

-- none is
pub returns : goal.returns
unfolding edge_of
returns c = answered_none_of c.loop-f.invariant (omega arith)

-- a field at an end
pub returns-then-end_at : goal.returns-then-end_at
unfolding edge_of
returns-then-end_at c = answered_one c.loop-f.invariant (omega arith) c.end_at.ensures c.if-end_at.true

pub end_at-requires : goal.end_at-requires
end_at-requires c = has_field c.requires (omega arith)
