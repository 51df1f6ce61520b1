-- `tables::layout::table_length` meets its contract: it is the end of the run-tos.
-- Assumes nothing.
use Rattle.tables.specs.Layout.{table_length}
use Rattle.tables.proofs.layout.table_length.Goals as goal

pub returns : goal.returns
unfolding table_length
returns c = c.to_at.ensures
