-- The answers that the check does not find alone.
use Prim.Native.Nat.{◌^◌}
use mathlib.Core.Path.{ap, ◌∙◌}
use native.Mathlib.Omega.{arith}
use lib.ListN.{length-set}
use Rattle.ranges.proofs.Blocks.{high_few}
use Rattle.ranges.proofs.Passes.{written_start, written_more, written_end, room_here, same_long, step_few, exponent_few, ranged_on}
use Rattle.ranges.proofs.expand.write_prefixes.Goals as goal

pub loop-at-init : goal.loop-at-init
loop-at-init c = written_start _ c.requires.ranged

pub largest_block-t-requires : goal.largest_block-t-requires
largest_block-t-requires c = ranged_on _ c.requires.ranged (omega (arith, c.loop-at-test.true))

pub overflow_cast-out : goal.overflow_cast-out
overflow_cast-out c =
    omega (arith, c.loop-at-test.true, high_few c.requires.ranged)

-- the run has a place for the pair
pub offset_bounds-out-k : goal.offset_bounds-out-k
offset_bounds-out-k c =
    omega (arith, room_here c.loop-at.invariant (omega (arith, c.loop-at-test.true)) c.requires.room, c.well_formed)

pub bounds-out-k : goal.bounds-out-k
bounds-out-k c =
    let g = c.loop-at.invariant in
    omega (arith, room_here g (omega (arith, c.loop-at-test.true)) c.requires.room, same_long g c.requires.room)

pub overflow_sub-out : goal.overflow_sub-out
overflow_sub-out c =
    exponent_few c.loop-at.at c.requires.ranged (omega (arith, c.loop-at-test.true)) c.largest_block-t.ensures

pub overflow_add-out : goal.overflow_add-out
overflow_add-out c =
    omega (arith, room_here c.loop-at.invariant (omega (arith, c.loop-at-test.true)) c.requires.room, c.well_formed)

pub offset_bounds-out-k-in-loop-at : goal.offset_bounds-out-k-in-loop-at
offset_bounds-out-k-in-loop-at c =
    omega (arith, room_here c.loop-at.invariant (omega (arith, c.loop-at-test.true)) c.requires.room, c.well_formed)

pub bounds-out-k-in-loop-at : goal.bounds-out-k-in-loop-at
bounds-out-k-in-loop-at c =
    let g = c.loop-at.invariant in
    simp length-set (omega (arith, room_here g (omega (arith, c.loop-at-test.true)) c.requires.room, same_long g c.requires.room))

pub block_size-at-requires : goal.block_size-at-requires
block_size-at-requires c =
    let r = c.requires.ranged in
    omega (arith, exponent_few c.loop-at.at r (omega (arith, c.loop-at-test.true)) c.largest_block-t.ensures, r)

-- what a turn adds, from where it stands
pub overflow_add-at : goal.overflow_add-at
overflow_add-at c =
    let r = c.requires.ranged in
    omega (arith, step_few r (omega (arith, c.loop-at-test.true)) (c.block_size-at.ensures ∙ ap (λ k. 2 ^ k) c.largest_block-t.ensures), high_few r)

pub overflow_add-k : goal.overflow_add-k
overflow_add-k c =
    omega (arith, room_here c.loop-at.invariant (omega (arith, c.loop-at-test.true)) c.requires.room, c.well_formed)

pub loop-at-smaller : goal.loop-at-smaller
loop-at-smaller c =
    omega
    (arith, step_few c.requires.ranged (omega (arith, c.loop-at-test.true)) (c.block_size-at.ensures ∙ ap (λ k. 2 ^ k) c.largest_block-t.ensures))

pub loop-at-preserved : goal.loop-at-preserved
loop-at-preserved c =
    written_more c.loop-at.invariant (omega (arith, c.loop-at-test.true)) c.requires.room (c.block_size-at.ensures ∙ ap (λ k. 2 ^ k) c.largest_block-t.ensures)
    c.largest_block-t.ensures

pub shape_of-out : goal.shape_of-out
shape_of-out c = same_long c.loop-at.invariant c.requires.room

pub returns : goal.returns
returns c = written_end c.loop-at.invariant c.loop-at-test.false
