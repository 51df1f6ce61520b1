-- `lists::check::list_fault` meets its contract: what the ends refuse is asked of a list whose shape stands.
-- Assumes nothing.
use mathlib.Core.Path.{sym}
use Rattle.lists.proofs.Faults.{shaped}
use Rattle.lists.proofs.check.list_fault.Goals as goal

pub ends_fault-requires : goal.ends_fault-requires
ends_fault-requires c = shaped _ (sym c.in_ok-shape_fault.ensures)
