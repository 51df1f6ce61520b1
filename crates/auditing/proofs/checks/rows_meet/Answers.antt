-- The answers that the check does not find alone.
use Rattle.lists.proofs.Search.{answered-all, turn_not}
use mathlib.Core.Bool.{not}
use mathlib.Core.Path.{ap}
use Rattle.auditing.proofs.checks.rows_meet.Goals as goal

-- a no
pub returns-then-not-field_meets : goal.returns-then-not-field_meets
returns-then-not-field_meets c =
    turn_not c.loop-f.invariant c.loop-f-test.true c.field_meets.ensures (ap not c.if-not-field_meets.true)

-- all of them
pub returns : goal.returns
returns c = answered-all c.loop-f.invariant c.loop-f-test.false
