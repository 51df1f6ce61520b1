-- `tables::opening::open_fault` meets its contract: a list whose shape stands has few fields and rules.
-- Assumes nothing.
use mathlib.Core.Path.{sym}
use native.Mathlib.Omega.{arith}
use Rattle.lists.proofs.Faults.{shaped}
use Rattle.tables.proofs.opening.open_fault.Goals as goal

pub overflow_cast-d : goal.overflow_cast-d
overflow_cast-d c = omega (arith, (shaped _ (sym c.in_ok-shape_fault.ensures)).few_fields)

pub overflow_cast-room : goal.overflow_cast-room
overflow_cast-room c =
    omega (arith, c.rules_in-room.ensures, (shaped _ (sym c.in_ok-shape_fault.ensures)).few_rules)
