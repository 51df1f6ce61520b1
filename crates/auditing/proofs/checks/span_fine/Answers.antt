-- The answers that the check does not find alone.
use native.Mathlib.Omega.{arith}
use mathlib.Core.Bool.{not}
use mathlib.Core.Path.{ap}
use Rattle.auditing.proofs.Checking.{span_over, span_all}
use Rattle.auditing.proofs.checks.span_fine.Goals as goal

-- two neighbours are not right
pub returns-then-not-next_fine : goal.returns-then-not-next_fine
returns-then-not-next_fine c =
    span_over c.requires c.ends_fine.ensures (ap not c.if-not-ends_fine.false) (omega arith) (omega arith) c.next_fine.ensures (ap not c.if-not-next_fine.true)

-- all are
pub returns : goal.returns
returns c =
    span_all c.requires c.ends_fine.ensures (ap not c.if-not-ends_fine.false) c.loop-p.invariant (omega arith)
