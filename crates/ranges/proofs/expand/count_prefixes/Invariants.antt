-- `ranges::expand::count_prefixes` meets its contract. The loop's invariant: those counted and those that are left make up the prefixes
-- of the whole range (`Left`, in `Passes.antt`). The measure is how many numbers are left.
-- Assumes nothing.
use Prim.Native.Nat.{◌-◌, ◌+◌}
use Rattle.ranges.proofs.Passes.{Left}
use Rattle.ranges.proofs.expand.count_prefixes.Given as goal

abbrev pub invariant-loop-next : goal.invariant-loop-next
invariant-loop-next l = Left l.width l.low l.high l.next l.count

abbrev pub decreases-loop-next : goal.decreases-loop-next
decreases-loop-next l = l.high + 1 - l.next
