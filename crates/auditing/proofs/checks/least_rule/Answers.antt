-- The answers that the check does not find alone.
use Rattle.auditing.proofs.Minimum.{lowest-none, lowest_more}
use Rattle.auditing.proofs.checks.least_rule.Goals as goal

pub loop-p-init : goal.loop-p-init
loop-p-init c = lowest-none _ _ _ _

pub loop-p-preserved : goal.loop-p-preserved
loop-p-preserved c =
    lowest_more c.loop-p.invariant c.loop-p-test.true c.rule_at.ensures c.min-least.ensures
