-- `tables::layout::to_at` meets its contract: it is the end of the run-froms, and what comes before in the rows.
-- Assumes nothing.
use native.Mathlib.Omega.{arith}
use Rattle.tables.specs.Layout.{to_at}
use Rattle.tables.proofs.Offsets.{from_few, row_few}
use Rattle.tables.proofs.layout.to_at.Goals as goal

pub overflow_add-result : goal.overflow_add-result
overflow_add-result c =
    let fit = c.ranges in
    omega (
      arith,
      from_few _ _ _ _ c.from_at.ensures fit.room.fits fit.d.fits (omega (arith, fit.room.fits)) (omega arith),
      c.row_of.ensures,
      row_few fit.d.fits fit.p.fits fit.f.fits,
    )

pub returns : goal.returns
unfolding to_at
returns c = rw (c.from_at.ensures, c.row_of.ensures)
