-- The answers that the check does not find alone.
use native.Mathlib.Omega.{arith}
use Rattle.lists.specs.FirstMatch.{fits}
use Rattle.lists.proofs.Rules.{has_field}
use Rattle.lists.proofs.Search.{answered-all, answered-not}
use Rattle.lists.proofs.scan.fits_at.Goals as goal

-- all fit
pub returns : goal.returns
unfolding fits
returns c = answered-all c.loop-f.invariant (omega arith)

-- a field that does not fit
pub returns-then-not-inside_at : goal.returns-then-not-inside_at
unfolding fits
returns-then-not-inside_at c = answered-not c.loop-f.invariant (omega arith) c.inside_at.ensures c.if-not-inside_at.true

pub inside_at-requires : goal.inside_at-requires
inside_at-requires c = has_field c.requires (omega arith)
