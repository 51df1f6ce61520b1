-- `tables::layout::row_of` meets its contract: of numbers of 16 bits, the product stays far below a word.
-- Assumes nothing.
use mathlib.Core.Path.{refl}
use native.Mathlib.Omega.{arith}
use Rattle.lists.proofs.Rules.{square_few}
use Rattle.tables.specs.Layout.{row_of}
use Rattle.tables.proofs.layout.row_of.Goals as goal

pub overflow_mul-result : goal.overflow_mul-result
overflow_mul-result c = omega (arith, square_few c.args.d c.args.p c.ranges.d.fits c.ranges.p.fits)

pub overflow_add-result : goal.overflow_add-result
overflow_add-result c = omega (arith, square_few c.args.d c.args.p c.ranges.d.fits c.ranges.p.fits)

pub returns : goal.returns
unfolding row_of
returns c = refl
