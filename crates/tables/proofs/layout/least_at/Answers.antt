-- `tables::layout::least_at` meets its contract: it is the last start and one, and how many partitions come before.
-- Assumes nothing.
use native.Mathlib.Omega.{arith}
use Rattle.tables.specs.Layout.{least_at}
use Rattle.tables.proofs.Offsets.{start_told_few}
use Rattle.tables.proofs.layout.least_at.Goals as goal

pub overflow_add-result : goal.overflow_add-result
overflow_add-result c =
    let fit = c.ranges in
    omega (arith, start_told_few _ _ c.start_at.ensures fit.room.fits (omega (arith, fit.room.fits)))

pub overflow_add-result-2 : goal.overflow_add-result-2
overflow_add-result-2 c =
    let fit = c.ranges in
    omega (arith, start_told_few _ _ c.start_at.ensures fit.room.fits (omega (arith, fit.room.fits)), fit.q.fits)

pub returns : goal.returns
unfolding least_at
returns c = rw c.start_at.ensures
