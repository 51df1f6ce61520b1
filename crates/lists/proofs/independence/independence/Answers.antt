-- `lists::independence::independence` meets its contract: the least pair is asked of a list whose shape stands.
-- Assumes nothing.
use mathlib.Core.Path.{sym}
use Rattle.lists.proofs.Sound.{list_shaped}
use Rattle.lists.proofs.independence.independence.Goals as goal

pub least_pair-requires : goal.least_pair-requires
least_pair-requires c = list_shaped _ (sym c.in_ok-list_fault.ensures)
