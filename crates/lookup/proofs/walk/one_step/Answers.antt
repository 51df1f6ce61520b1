-- `lookup::walk::one_step` meets its contract: the middle of a group that is not empty is a place of the table, so what is read
-- at it lies within; and at each way out the tests that led there give the law of that outcome.
-- Assumes nothing.
use mathlib.Core.Path.{sym, ◌∙◌}
use native.Mathlib.Omega.{arith}
use Rattle.ranges.specs.declared.side.Side.TheVariants.{Below, Above, Inside}
use Rattle.lists.proofs.Fitting.{below_read, above_read, within-read}
use Rattle.lookup.proofs.Within.{order_read, from_read, to_read, field_read}
use Rattle.lookup.proofs.Steps.{step_beyond, step_astray, step_by}
use Rattle.lookup.proofs.walk.one_step.Goals as goal

pub rule_in-rule-requires : goal.rule_in-rule-requires
rule_in-rule-requires c =
    order_read c.requires.ready _ (omega arith)

-- no such rule
pub returns-then-table-rule : goal.returns-then-table-rule
returns-then-table-rule c =
    sym (step_beyond _ _ _ _ _ _ _ _ _ c.requires.ready.rules c.rule_in-rule.ensures c.if-table-rule.true)

pub from_in-from-requires : goal.from_in-from-requires
from_in-from-requires c =
    from_read c.requires.ready _ c.args.f (omega arith) c.requires.group.in_row

pub to_in-to-requires : goal.to_in-to-requires
to_in-to-requires c =
    to_read c.requires.ready _ c.args.f (omega arith) c.requires.group.in_row

-- a run that may not be trusted
pub returns-then-not-run_stands : goal.returns-then-not-run_stands
returns-then-not-run_stands c =
    sym
    (step_astray _ _ _ _ _ _ _ _ _ c.requires.ready.rules c.rule_in-rule.ensures _ _ c.from_in-from.ensures c.to_in-to.ensures
    c.if-table-rule.false _ c.run_stands.ensures c.if-not-run_stands.true)

pub range_at-range-requires : goal.range_at-range-requires
range_at-range-requires c =
    field_read c.requires.ready c.rule_in-rule.result c.args.f c.if-table-rule.false c.requires.group.in_row

-- below
pub returns-then-is_below : goal.returns-then-is_below
returns-then-is_below c =
    let a = c.args in
    sym
    (step_by _ _ _ _ _ _ _ _ _ c.requires.ready.rules c.rule_in-rule.ensures _ _ c.from_in-from.ensures c.to_in-to.ensures
    c.if-table-rule.false Below (sym c.run_stands.ensures ∙ c.if-not-run_stands.false)
    (below_read _ a.header.now _ _ _ c.range_at-range.ensures _ c.is_below.ensures c.if-is_below.true))

-- above
pub returns-then-is_past : goal.returns-then-is_past
returns-then-is_past c =
    let a = c.args in
    sym
    (step_by _ _ _ _ _ _ _ _ _ c.requires.ready.rules c.rule_in-rule.ensures _ _ c.from_in-from.ensures c.to_in-to.ensures
    c.if-table-rule.false Above (sym c.run_stands.ensures ∙ c.if-not-run_stands.false)
    (above_read _ a.header.now _ _ _ c.range_at-range.ensures _ c.is_below.ensures c.if-is_below.false _ c.is_past.ensures c.if-is_past.true))

-- inside
pub returns : goal.returns
returns c =
    let a = c.args in
    sym
    (step_by _ _ _ _ _ _ _ _ _ c.requires.ready.rules c.rule_in-rule.ensures _ _ c.from_in-from.ensures c.to_in-to.ensures
    c.if-table-rule.false Inside (sym c.run_stands.ensures ∙ c.if-not-run_stands.false)
    (within-read _ a.header.now _ _ _ c.range_at-range.ensures _ c.is_below.ensures c.if-is_below.false _ c.is_past.ensures c.if-is_past.false))
