-- The answers that the check does not find alone.
use Rattle.lists.proofs.Search.{answered-all}
use Rattle.auditing.proofs.Checking.{marked_none, marked_over, marked_twice, marked_more}
use Rattle.auditing.proofs.checks.rules_fine.Goals as goal

pub loop-p-init : goal.loop-p-init
loop-p-init c = marked_none _ _

-- a number that is no rule
pub returns-then-n-i : goal.returns-then-n-i
returns-then-n-i c =
    marked_over c.loop-p.invariant c.loop-p-test.true c.requires c.rule_at-i.ensures c.if-n-i.true

-- a rule that stood before
pub returns-then-marks-i : goal.returns-then-marks-i
returns-then-marks-i c =
    marked_twice c.loop-p.invariant c.loop-p-test.true c.requires c.rule_at-i.ensures c.if-n-i.false c.if-marks-i.true

pub loop-p-preserved : goal.loop-p-preserved
loop-p-preserved c =
    marked_more c.loop-p.invariant c.loop-p-test.true c.requires c.rule_at-i.ensures c.if-n-i.false c.if-marks-i.false

-- all of them
pub returns : goal.returns
returns c = answered-all c.loop-p.invariant.told c.loop-p-test.false
