-- The answers that the check does not find alone.
use Rattle.sorting.proofs.Partitions.Stamps.{part_few, stamping_none, stamping_more, stamping_end}
use native.Mathlib.Omega.{arith}
use Rattle.sorting.proofs.choose.mark.Goals as goal

pub loop-j-init : goal.loop-j-init
loop-j-init c = stamping_none _ _ _ _ c.requires.long

pub loop-j-preserved : goal.loop-j-preserved
loop-j-preserved c =
    let asked = c.requires in
    let lt = c.loop-j-test.true in
    stamping_more _ _ _ _ c.loop-j.invariant asked.fresh (part_few asked _ lt) c.mark_of.ensures lt

-- held against all of them
pub returns : goal.returns
returns c = stamping_end _ _ _ _ c.loop-j.invariant (omega arith)
