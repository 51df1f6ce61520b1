-- `ranges::expand::block_size` meets its contract: a shift by at most 32 stays in a word.
-- Assumes nothing.
use Prim.Native.Nat.{◌<◌}
use native.Mathlib.Omega.{arith}
use Rattle.ranges.proofs.Widths.{shifted_one}
use Rattle.ranges.proofs.expand.block_size.Goals as goal

pub returns : goal.returns
returns c =
    let below : c.args.t < 64 = omega arith in
    shifted_one c.args.t 64 below
