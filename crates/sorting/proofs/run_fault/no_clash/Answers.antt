-- The answers that the check does not find alone.
use mathlib.Core.Bool.{not}
use mathlib.Core.Path.{ap}
use Rattle.lists.proofs.Search.{answered-all, turn_not}
use Rattle.sorting.proofs.Answering.RunTests.{clash-all}
use Rattle.sorting.proofs.run_fault.no_clash.Goals as goal

pub returns-then-not-fits_in : goal.returns-then-not-fits_in
returns-then-not-fits_in c =
    clash-all c.requires (turn_not c.loop-i.invariant c.loop-i-test.true c.fits_in.ensures (ap not c.if-not-fits_in.true))

pub returns : goal.returns
returns c =
    clash-all c.requires (answered-all c.loop-i.invariant c.loop-i-test.false)
