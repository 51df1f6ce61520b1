-- `lists::shape::shape_fault` meets its contract: at each way out the tests that led there give the law of that refusal.
-- Assumes nothing.
use mathlib.Core.Path.{sym, ap, ◌∙◌}
use Rattle.std.specs.Prelude.{Err}
use native.Mathlib.Omega.{arith}
use Rattle.lists.specs.Rules.{lent}
use Rattle.lists.proofs.Rules.{within_by}
use Rattle.lists.proofs.Faults.{shape_no_fields, shape_many_fields, counted_part_rule, counted_many_rules, counted_stands}
use Rattle.lists.proofs.shape.shape_fault.Goals as goal

-- 1: no field
pub returns-then-d-lt1 : goal.returns-then-d-lt1
returns-then-d-lt1 c = ap Err c.refuse.ensures ∙ sym (shape_no_fields _ c.if-d-lt1.true)

-- 1: more than eight fields
pub returns-then-d-gt-MOST_FIELDS : goal.returns-then-d-gt-MOST_FIELDS
returns-then-d-gt-MOST_FIELDS c = ap Err c.refuse-then-d-gt-MOST_FIELDS.ensures ∙ sym (shape_many_fields _ c.if-d-lt1.false c.if-d-gt-MOST_FIELDS.true)

pub overflow_mul-n : goal.overflow_mul-n
overflow_mul-n c =
    let a = c.args in
    omega (arith, within_by (lent a.list.now) c.rules_in-n.result c.rules_in-n.ensures)

pub overflow_mul-n-2 : goal.overflow_mul-n-2
overflow_mul-n-2 c =
    let a = c.args in
    omega (arith, within_by (lent a.list.now) c.rules_in-n.result c.rules_in-n.ensures)

-- 2
pub returns-then-n-d : goal.returns-then-n-d
returns-then-n-d c =
    ap Err c.refuse-then-n-d.ensures ∙ sym (counted_part_rule _ _ c.rules_in-n.ensures c.if-d-lt1.false c.if-d-gt-MOST_FIELDS.false c.if-n-d.true)

-- 3
pub returns-then-n-gt-MOST_RULES : goal.returns-then-n-gt-MOST_RULES
returns-then-n-gt-MOST_RULES c =
    ap Err c.refuse-then-n-gt-MOST_RULES.ensures
    ∙ sym (counted_many_rules _ _ c.rules_in-n.ensures c.if-d-lt1.false c.if-d-gt-MOST_FIELDS.false c.if-n-d.false c.if-n-gt-MOST_RULES.true)

-- none of them
pub returns : goal.returns
returns c =
    sym (counted_stands _ _ c.rules_in-n.ensures c.if-d-lt1.false c.if-d-gt-MOST_FIELDS.false c.if-n-d.false c.if-n-gt-MOST_RULES.false)
