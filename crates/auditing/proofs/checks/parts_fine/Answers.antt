-- The answers that the check does not find alone.
use Rattle.lists.proofs.Search.{answered-all, turn_not}
use Rattle.auditing.proofs.Checking.{part_told}
use mathlib.Core.Bool.{not}
use mathlib.Core.Path.{ap}
use Rattle.auditing.proofs.checks.parts_fine.Goals as goal

-- a partition is not right
pub returns-then-not-span_fine : goal.returns-then-not-span_fine
returns-then-not-span_fine c =
    let lt = rw c.part_count-q-end.ensures at c.loop-q-test.true in
    turn_not c.loop-q.invariant lt (part_told c.requires lt c.start_of.ensures c.end_of.ensures c.span_fine.ensures) (ap not c.if-not-span_fine.true)

-- all are
pub returns : goal.returns
returns c = answered-all c.loop-q.invariant (rw c.part_count-q-end.ensures at c.loop-q-test.false)
