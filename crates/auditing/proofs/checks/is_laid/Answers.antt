-- `auditing::checks::is_laid` meets its contract: each test before what relies on it.
-- Assumes nothing.
use native.Mathlib.Omega.{arith}
use mathlib.Core.Bool.{not}
use mathlib.Core.Path.{ap}
use Rattle.auditing.proofs.Tested.{laid_open, laid_few, laid_parted}
use Rattle.auditing.proofs.checks.is_laid.Goals as goal

pub overflow_cast-room : goal.overflow_cast-room
overflow_cast-room c =
    omega (arith, laid_few (laid_open c.open_fault.ensures c.if-is_err.ensures.value) c.rules_in-room.ensures)

pub rules_fine-requires : goal.rules_fine-requires
rules_fine-requires c = laid_few (laid_open c.open_fault.ensures c.if-is_err.ensures.value) c.rules_in-room.ensures

pub overflow_cast-d : goal.overflow_cast-d
overflow_cast-d c = omega (arith, (laid_open c.open_fault.ensures c.if-is_err.ensures.value).shape_stands.few_fields)

pub parts_fine-requires : goal.parts_fine-requires
parts_fine-requires c =
    laid_parted (laid_open c.open_fault.ensures c.if-is_err.ensures.value) c.rules_in-room.ensures c.starts_fine.ensures (ap not c.if-not-starts_fine.false)
