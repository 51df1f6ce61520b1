-- The answers that the check does not find alone.
use mathlib.Core.Path.{refl}
use Rattle.sorting.proofs.Partitions.Seen.{seen_more}
use Rattle.sorting.proofs.run_fault.mark_used.Goals as goal

pub loop-q-preserved : goal.loop-q-preserved
loop-q-preserved c = seen_more c.loop-q.invariant refl (c.requires.0.below _ c.loop-q-test.true)
