-- `tables::layout::from_at` meets its contract: it is the end of the smallest rule numbers, and what comes before in the rows.
-- Assumes nothing.
use native.Mathlib.Omega.{arith}
use Rattle.tables.specs.Layout.{from_at}
use Rattle.tables.proofs.Offsets.{least_few, row_few}
use Rattle.tables.proofs.layout.from_at.Goals as goal

pub overflow_add-result : goal.overflow_add-result
overflow_add-result c =
    let fit = c.ranges in
    omega (
      arith,
      least_few _ _ c.least_at.ensures fit.room.fits (omega (arith, fit.room.fits)),
      c.row_of.ensures,
      row_few fit.d.fits fit.p.fits fit.f.fits,
    )

pub returns : goal.returns
unfolding from_at
returns c = rw (c.least_at.ensures, c.row_of.ensures)
