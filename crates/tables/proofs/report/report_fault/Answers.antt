-- `tables::report::report_fault` meets its contract: a list whose table opens has few rules.
-- Assumes nothing.
use mathlib.Core.Path.{sym}
use native.Mathlib.Omega.{arith}
use Rattle.tables.proofs.Opened.{opened}
use Rattle.tables.proofs.report.report_fault.Goals as goal

pub overflow_cast-room : goal.overflow_cast-room
overflow_cast-room c =
    omega (arith, c.rules_in-room.ensures, (opened _ _ (sym c.in_ok-open_fault.ensures)).shape_stands.few_rules)

pub overflow_cast-d : goal.overflow_cast-d
overflow_cast-d c = omega (arith, (opened _ _ (sym c.in_ok-open_fault.ensures)).shape_stands.few_fields)
