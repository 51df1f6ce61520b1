-- The answer that the check does not find alone.
use mathlib.Core.Path.{refl}
use Rattle.text.proofs.Puts.{puts_more}
use Rattle.text.proofs.put.Out.text.Goals as goal

pub loop-i-preserved : goal.loop-i-preserved
loop-i-preserved c = puts_more _ _ c.loop-i-test.true c.loop-i.invariant (record { put = c.put_byte-at.ensures; same_run = refl })
