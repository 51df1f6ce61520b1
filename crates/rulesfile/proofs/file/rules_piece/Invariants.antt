-- `rulesfile::file::rules_piece` meets its contract. At the loop's head what is left, read from here, comes to what all of it does; the measure is
-- what is left.
-- Assumes nothing.
use mathlib.Core.Path.{◌≡◌}
use lib.ListN.{length}
use Rattle.text.specs.Cells.{fed}
use Rattle.rulesfile.specs.Bytes.{rules_in_file, rules_step}
use Rattle.rulesfile.proofs.file.rules_piece.Given as goal

abbrev pub invariant-loop-rest : goal.invariant-loop-rest
invariant-loop-rest l =
    (length l.list ≡ length l.initial.list)
    × (fed rules_step (rules_in_file l.present l.list) l.rest ≡ fed rules_step (rules_in_file l.initial.present l.initial.list) l.bytes)

abbrev pub decreases-loop-rest : goal.decreases-loop-rest
decreases-loop-rest l = length l.rest
