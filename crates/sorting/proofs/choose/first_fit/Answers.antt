-- The answers that the check does not find alone.
use Rattle.sorting.proofs.Partitions.Choosing.{choosing_none, choosing_marks, choosing_more, choosing_numbers}
use native.Mathlib.Omega.{arith}
use Rattle.sorting.proofs.choose.first_fit.Goals as goal

pub loop-i-init : goal.loop-i-init
loop-i-init c = choosing_none _

pub mark-requires : goal.mark-requires
mark-requires c =
    choosing_marks c.requires.shape_stands c.loop-i.invariant (omega arith)

pub loop-i-preserved : goal.loop-i-preserved
loop-i-preserved c =
    choosing_more c.requires.shape_stands c.loop-i.invariant (omega arith) c.mark.ensures c.first_free.ensures

pub parts_in-requires : goal.parts_in-requires
parts_in-requires c =
    choosing_numbers c.requires.shape_stands c.loop-i.invariant (omega arith) c.requires.one_each c.copy_from_slice.ensures.after
