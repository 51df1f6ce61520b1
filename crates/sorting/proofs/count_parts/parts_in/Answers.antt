-- The answers that the check does not find alone.
use mathlib.Core.Path.{sym, ◌∙◌}
use Rattle.sorting.proofs.Partitions.Parts.{parts_none, parts_turn}
use Rattle.sorting.proofs.count_parts.parts_in.Goals as goal

pub loop-q-init : goal.loop-q-init
loop-q-init c = sym (parts_none _)

pub loop-q-preserved : goal.loop-q-preserved
loop-q-preserved c = c.max-b.ensures ∙ parts_turn _ _ _ c.loop-q.invariant
