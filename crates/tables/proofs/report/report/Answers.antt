-- `tables::report::report` meets its contract: the partition of a report that is not refused has a number below the most rules, and its
-- starts ascend.
-- Assumes nothing.
use mathlib.Core.Path.{sym}
use native.Mathlib.Omega.{arith}
use Rattle.tables.proofs.Reporting.{reported, reported_few, reported_within}
use Rattle.tables.proofs.report.report.Goals as goal

pub overflow_cast-room : goal.overflow_cast-room
overflow_cast-room c =
    omega (arith, c.rules_in-room.ensures, (reported _ _ _ (sym c.in_ok-report_fault.ensures)).opens.shape_stands.few_rules)

pub overflow_cast-q : goal.overflow_cast-q
overflow_cast-q c = omega (arith, reported_few _ _ _ (sym c.in_ok-report_fault.ensures))

pub part_size-requires : goal.part_size-requires
part_size-requires c = reported_within _ _ _ (sym c.in_ok-report_fault.ensures) c.rules_in-room.ensures

pub overflow_cast-d : goal.overflow_cast-d
overflow_cast-d c = omega (arith, (reported _ _ _ (sym c.in_ok-report_fault.ensures)).opens.shape_stands.few_fields)
