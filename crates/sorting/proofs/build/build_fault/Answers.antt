-- `sorting::build::build_fault` meets its contract: the numbers that the table's length hangs on fit.
-- Assumes nothing.
use native.Mathlib.Omega.{arith}
use mathlib.Core.Path.{sym}
use Rattle.lists.proofs.Sound.{list_shaped}
use Rattle.sorting.proofs.build.build_fault.Goals as goal

pub overflow_cast-d : goal.overflow_cast-d
overflow_cast-d c =
    omega (arith, (list_shaped _ (sym c.in_ok-list_fault.ensures)).few_fields)

pub overflow_cast-n : goal.overflow_cast-n
overflow_cast-n c =
    omega (arith, c.rules_in-n.ensures, (list_shaped _ (sym c.in_ok-list_fault.ensures)).few_rules)
