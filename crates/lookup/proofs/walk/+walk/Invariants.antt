-- `lookup::walk::walk` calls itself on a smaller group or the next field. The measure is the group's size plus the remaining fields.
-- Assumes nothing.
use Prim.Native.Nat.{◌+◌, ◌-◌}
use Rattle.lookup.proofs.walk.+walk.Given as goal

-- group size plus remaining fields
abbrev pub decreases-walk : goal.decreases-walk
decreases-walk l = (l.e - l.s) + (l.table.now.d - l.f)
