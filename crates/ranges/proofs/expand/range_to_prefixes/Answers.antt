-- `ranges::expand::range_to_prefixes` meets its contract: what the check does not find alone (`RangeFaults.antt`). The prefixes are counted
-- before the first write.
-- Assumes nothing.
use mathlib.Core.Path.{sym}
use Rattle.ranges.proofs.RangeFaults.{ranged}
use Rattle.ranges.proofs.expand.range_to_prefixes.Goals as goal

pub count_prefixes-needed-requires : goal.count_prefixes-needed-requires
count_prefixes-needed-requires c = ranged _ _ _ (sym c.in_ok-range_fault.ensures)

pub write_prefixes-requires-clause-ranged : goal.write_prefixes-requires-clause-ranged
write_prefixes-requires-clause-ranged c = ranged _ _ _ (sym c.in_ok-range_fault.ensures)
