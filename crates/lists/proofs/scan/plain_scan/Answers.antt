-- `lists::scan::plain_scan` meets its contract: the first match is asked of a list whose shape stands.
-- Assumes nothing.
use mathlib.Core.Path.{sym}
use Rattle.lists.proofs.Sound.{list_shaped}
use Rattle.lists.proofs.scan.plain_scan.Goals as goal

pub first_match-requires : goal.first_match-requires
first_match-requires c = list_shaped _ (sym c.in_ok-list_fault.ensures)
