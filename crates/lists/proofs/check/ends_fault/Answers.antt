-- The answers that the check does not find alone.
use mathlib.Core.Path.{refl}
use Rattle.lists.proofs.Rules.{has_rule}
use Rattle.lists.proofs.Search.{answered_more}
use Rattle.lists.proofs.Voids.{bad_no, ends_4, ends_stands}
use Rattle.lists.proofs.check.ends_fault.Goals as goal

pub void_field-requires : goal.void_field-requires
void_field-requires c = has_rule c.requires (rw c.rules_in-i-end.ensures at c.loop-i-test.true)

-- 4, at the first rule with a void field
pub returns-in-Some : goal.returns-in-Some
returns-in-Some c =
    ends_4 _ _ c.loop-i.invariant c.in-Some.ensures (rw c.rules_in-i-end.ensures at c.loop-i-test.true)

pub loop-i-preserved : goal.loop-i-preserved
loop-i-preserved c =
    let n = c.rules_in-i-end.ensures in
    answered_more c.loop-i.invariant (rw n at c.loop-i-test.true) refl (bad_no _ _ c.in_default.ensures)

-- no rule has one
pub returns : goal.returns
returns c =
    ends_stands _ _ c.loop-i.invariant (rw c.rules_in-i-end.ensures at c.loop-i-test.false)
