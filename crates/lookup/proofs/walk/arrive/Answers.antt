-- `lookup::walk::arrive` meets its contract: at each way out the tests that led there give the law of that end.
-- Assumes nothing.
use mathlib.Core.Path.{sym, ◌∙◌}
use native.Mathlib.Omega.{arith}
use Rattle.lookup.proofs.Within.{order_read}
use Rattle.lookup.proofs.Arrivals.{arrive_many, arrive_unfit, arrive_fits}
use Rattle.lookup.proofs.walk.arrive.Goals as goal

-- not one place
pub returns-then-e-s : goal.returns-then-e-s
returns-then-e-s c = sym (arrive_many _ _ _ _ _ _ c.if-e-s.true)

pub rule_in-rule-requires : goal.rule_in-rule-requires
rule_in-rule-requires c =
    order_read c.requires.ready c.args.s (omega arith)

-- no such rule, or one that does not fit
pub returns-then-not-rule_fits : goal.returns-then-not-rule_fits
returns-then-not-rule_fits c =
    let lent = c.requires.ready.shape_stands in
    sym
    (arrive_unfit _ _ _ _ _ _ _ lent.some_fields lent.few_fields c.if-e-s.false c.rule_in-rule.ensures
    (sym c.rule_fits.ensures ∙ c.if-not-rule_fits.true))

-- the candidate
pub returns : goal.returns
returns c =
    let lent = c.requires.ready.shape_stands in
    sym
    (arrive_fits _ _ _ _ _ _ _ lent.some_fields lent.few_fields c.if-e-s.false c.rule_in-rule.ensures
    (sym c.rule_fits.ensures ∙ c.if-not-rule_fits.false))
