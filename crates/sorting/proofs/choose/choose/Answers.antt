-- `sorting::choose::choose` meets its contract: a run that is not refused has a number for each rule.
-- Assumes nothing.
use Rattle.sorting.proofs.Answering.InTurn.{chosen_fine}
use Rattle.sorting.proofs.choose.choose.Goals as goal

pub first_fit-requires : goal.first_fit-requires
first_fit-requires c = chosen_fine _ _ c.in_ok-choose_fault.ensures
