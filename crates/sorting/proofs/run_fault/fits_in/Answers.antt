-- The answers that the check does not find alone.
use mathlib.Core.Bool.{not}
use mathlib.Core.Path.{ap}
use Rattle.lists.proofs.Search.{answered-all, turn_not}
use Rattle.sorting.proofs.run_fault.fits_in.Goals as goal

pub returns-then-not-is_apart : goal.returns-then-not-is_apart
returns-then-not-is_apart c =
    turn_not c.loop-j.invariant c.loop-j-test.true c.is_apart.ensures (ap not c.if-not-is_apart.true)

pub returns : goal.returns
returns c = answered-all c.loop-j.invariant c.loop-j-test.false
