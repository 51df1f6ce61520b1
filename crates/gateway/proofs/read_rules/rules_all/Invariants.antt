-- `gateway::read_rules::rules_all` meets its contract. At the loop's head there are pieces that the file's state comes from, and more
-- may come (`RulesOn`).
-- Assumes nothing.
use mathlib.Core.Path.{◌≡◌}
use lib.ListN.{length}
use Rattle.gateway.proofs.Serving.{RulesOn}
use Rattle.gateway.proofs.read_rules.rules_all.Given as goal

abbrev pub invariant-loop : goal.invariant-loop
invariant-loop l = (length l.bytes ≡ length l.initial.bytes) × RulesOn l.initial.list l.file l.list
