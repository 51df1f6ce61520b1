-- `tables::layout::order_at` meets its contract: the sum of a number of 16 bits fits a word.
-- Assumes nothing.
use mathlib.Core.Path.{refl}
use Rattle.tables.specs.Layout.{order_at}
use Rattle.tables.proofs.layout.order_at.Goals as goal

pub returns : goal.returns
unfolding order_at
returns c = refl
