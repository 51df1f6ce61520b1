-- `ranges::prefix::low_ones` meets its contract: below 32 the shift is 2 ^ k, and at 32 the number is written out.
-- Assumes nothing.
use Prim.Native.Nat.{◌-◌, ◌^◌, ◌<◌}
use mathlib.Core.Path.{sym, ap}
use native.Mathlib.Omega.{arith}
use lib.Pow.{pow_pos}
use Rattle.ranges.proofs.Widths.{shifted_one}
use Rattle.ranges.proofs.prefix.low_ones.Goals as goal

-- all 32 bits
pub returns-then-k-eq32 : goal.returns-then-k-eq32
returns-then-k-eq32 c = sym (ap (λ k. 2 ^ k - 1) c.if-k-eq32.true)

pub overflow_sub-result : goal.overflow_sub-result
overflow_sub-result c =
    let k = c.args.k in
    let below : k < 32 = omega arith in
    rw (shifted_one k 32 below) (pow_pos k)

-- fewer
pub returns : goal.returns
returns c =
    let k = c.args.k in
    let below : k < 32 = omega arith in
    ap (λ i. i - 1) (shifted_one k 32 below)
