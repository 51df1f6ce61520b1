-- `lookup::walk::run_stands` meets its contract: at each way out the tests that led there give the law of that test.
-- Assumes nothing.
use mathlib.Core.Path.{sym}
use Rattle.lookup.proofs.Steps.{run_before_group, run_past_mid, run_short, run_to_end}
use Rattle.lookup.proofs.walk.run_stands.Goals as goal

-- it starts before the group
pub returns-then-from-s : goal.returns-then-from-s
returns-then-from-s c = sym (run_before_group _ _ _ _ _ c.if-from-s.true)

-- it starts past the middle
pub returns-then-mid-from : goal.returns-then-mid-from
returns-then-mid-from c = sym (run_past_mid _ _ _ _ _ c.if-from-s.false c.if-mid-from.true)

-- it ends before the middle's end
pub returns-then-to-mid : goal.returns-then-to-mid
returns-then-to-mid c = sym (run_short _ _ _ _ _ c.if-from-s.false c.if-mid-from.false c.if-to-mid.true)

-- it ends within the group or past it
pub returns : goal.returns
returns c = sym (run_to_end _ _ _ _ _ c.if-from-s.false c.if-mid-from.false c.if-to-mid.false)
