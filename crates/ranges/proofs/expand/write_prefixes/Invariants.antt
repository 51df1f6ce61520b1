-- `ranges::expand::write_prefixes` meets its contract. The loop's invariant: the run holds the prefixes passed at its front, and these
-- with those that are left make up the prefixes of the whole range (`Written`, in `Passes.antt`). The measure is how many numbers are left.
-- Assumes nothing.
use Prim.Native.Nat.{◌-◌, ◌+◌}
use Rattle.ranges.proofs.Passes.{Written}
use Rattle.ranges.proofs.expand.write_prefixes.Given as goal

abbrev pub invariant-loop-at : goal.invariant-loop-at
invariant-loop-at l = Written l.width l.low l.high l.at l.k l.initial.out l.out

abbrev pub decreases-loop-at : goal.decreases-loop-at
decreases-loop-at l = l.high + 1 - l.at
