-- The answer that the check does not find alone.
use Rattle.phrases.proofs.Said.{put_more}
use Rattle.phrases.proofs.say.put_table.Goals as goal

pub loop-n-preserved : goal.loop-n-preserved
loop-n-preserved c = put_more _ _ c.loop-n-test.true c.loop-n.invariant c.put_spaced.ensures
