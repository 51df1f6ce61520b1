-- `lists::shape::rules_in` meets its contract: halving first and dividing by d then is dividing by 2d.
-- Assumes nothing.
use mathlib.Core.Path.{sym}
use Rattle.lists.proofs.Rules.{rules-none, rules_halved}
use Rattle.lists.proofs.shape.rules_in.Goals as goal

pub returns-then-d-eq0 : goal.returns-then-d-eq0
returns-then-d-eq0 c = sym (rules-none _ c.if-d-eq0.true)

pub returns : goal.returns
returns c = rules_halved _
