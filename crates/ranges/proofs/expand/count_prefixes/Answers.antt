-- The answers that the check does not find alone.
use Prim.Native.Nat.{◌^◌}
use mathlib.Core.Path.{ap, ◌∙◌}
use native.Mathlib.Omega.{arith}
use Rattle.ranges.proofs.Blocks.{high_few}
use Rattle.ranges.proofs.Passes.{left_start, left_more, left_end, step_few, exponent_few, ranged_on}
use Rattle.ranges.proofs.expand.count_prefixes.Goals as goal

pub loop-next-init : goal.loop-next-init
loop-next-init c = left_start c.requires

pub largest_block-t-requires : goal.largest_block-t-requires
largest_block-t-requires c = ranged_on _ c.requires c.loop-next-test.true

pub block_size-next-requires : goal.block_size-next-requires
block_size-next-requires c =
    let r = c.requires in
    omega (arith, exponent_few c.loop-next.next r c.loop-next-test.true c.largest_block-t.ensures, r)

-- what a turn adds, from where it stands
pub overflow_add-next : goal.overflow_add-next
overflow_add-next c =
    let r = c.requires in
    omega (arith, step_few r c.loop-next-test.true (c.block_size-next.ensures ∙ ap (λ k. 2 ^ k) c.largest_block-t.ensures), high_few r)

pub overflow_add-count : goal.overflow_add-count
overflow_add-count c =
    let r = c.requires in
    omega (arith, c.loop-next.invariant.from_low, c.loop-next-test.true, high_few r)

pub loop-next-smaller : goal.loop-next-smaller
loop-next-smaller c =
    omega (arith, step_few c.requires c.loop-next-test.true (c.block_size-next.ensures ∙ ap (λ k. 2 ^ k) c.largest_block-t.ensures))

pub loop-next-preserved : goal.loop-next-preserved
loop-next-preserved c =
    left_more c.loop-next.invariant c.loop-next-test.true (c.block_size-next.ensures ∙ ap (λ k. 2 ^ k) c.largest_block-t.ensures)

pub returns : goal.returns
returns c = left_end c.loop-next.invariant c.loop-next-test.false
