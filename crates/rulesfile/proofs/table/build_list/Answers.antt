-- `rulesfile::table::build_list` meets its contract: the place of the build's refusal has few bits.
-- Assumes nothing.
use Rattle.rulesfile.proofs.Tabling.{build_place}
use Rattle.rulesfile.proofs.table.build_list.Goals as goal

pub void_flaw-requires-clause-place_fits : goal.void_flaw-requires-clause-place_fits
void_flaw-requires-clause-place_fits c = build_place _ _ c.in-Err.ensures.answers
