-- `sorting::build::build` meets its contract: a list and a table that are not refused may be built.
-- Assumes nothing.
use mathlib.Core.Path.{sym}
use Rattle.sorting.proofs.Answering.BuildFaults.{buildable}
use Rattle.sorting.proofs.build.build.Goals as goal

pub write_built-requires : goal.write_built-requires
write_built-requires c = buildable _ _ (sym c.in_ok-build_fault.ensures)
