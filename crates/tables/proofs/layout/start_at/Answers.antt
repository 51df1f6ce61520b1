-- `tables::layout::start_at` meets its contract: the sum of numbers of 16 bits fits a word.
-- Assumes nothing.
use native.Mathlib.Omega.{arith}
use Rattle.tables.specs.Layout.{order_at, start_at}
use Rattle.tables.proofs.layout.start_at.Goals as goal

pub overflow_add-result : goal.overflow_add-result
unfolding order_at
overflow_add-result c = omega (arith, c.order_at.ensures, c.ranges.room.fits, c.ranges.q.fits)

pub returns : goal.returns
unfolding start_at
returns c = rw c.order_at.ensures
