-- `phrases::say::put_spaced` meets its contract: a blank, and then the number.
-- Assumes nothing.
use Prim.Native.Nat.{◌<◌, ◌^◌}
use native.Mathlib.Omega.{arith}
use Rattle.text.proofs.Puts.{puts_then}
use Rattle.phrases.proofs.Few.{spaced_few}
use Rattle.phrases.proofs.say.put_spaced.Goals as goal

pub returns : goal.returns
returns c =
    let small : c.args.n < 2 ^ 64 = omega (arith, c.well_formed.0) in
    record {
      puts = puts_then c.byte.ensures c.number.ensures;
      few = spaced_few c.args.n small;
    }
