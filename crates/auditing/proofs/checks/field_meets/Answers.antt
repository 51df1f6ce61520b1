-- The answer that the check does not find alone: p + 1 is a place of the table.
use native.Mathlib.Omega.{arith}
use Rattle.auditing.proofs.checks.field_meets.Goals as goal

pub overflow_add-next : goal.overflow_add-next
overflow_add-next c = omega (arith, c.requires.0.inside)
