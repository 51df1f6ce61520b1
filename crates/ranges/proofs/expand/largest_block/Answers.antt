-- `ranges::expand::largest_block` meets its contract: the answer is the smaller of two counts of zeros in words of 64 bits, and a range
-- has at most 32 (`block_zeros`, in `Zeros.antt`).
-- Assumes nothing.
use native.Mathlib.Omega.{arith}
use native.Mathlib.Nat.{le_trans, min-eq_left, min-eq_right}
use mathlib.Core.Path.{sym, ◌∙◌}
use Rattle.ranges.proofs.Blocks.{high_few, low_few}
use Rattle.ranges.proofs.Zeros.{leading_less, block_zeros}
use Rattle.ranges.proofs.expand.largest_block.Goals as goal

pub overflow_sub-within : goal.overflow_sub-within
overflow_sub-within c = low_few c.requires

pub overflow_add-within : goal.overflow_add-within
overflow_add-within c = omega (arith, high_few c.requires)

-- some number is left
pub overflow_sub-within-2 : goal.overflow_sub-within-2
overflow_sub-within-2 c = le_trans (leading_less 63 _) (omega arith)

-- the largest power of two within what is left
pub returns-then-within-aligned : goal.returns-then-within-aligned
returns-then-within-aligned c =
    let r = c.requires in
    sym (block_zeros r 64 (omega (arith, r)) ∙ min-eq_right (omega (arith, c.if-within-aligned.true)))

-- as far as low is aligned
pub returns : goal.returns
returns c =
    let r = c.requires in
    sym (block_zeros r 64 (omega (arith, r)) ∙ min-eq_left (omega (arith, c.if-within-aligned.false)))
