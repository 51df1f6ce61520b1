-- `ranges::side::meets` meets its contract: the second low decides where the first is before the other's end.
-- Assumes nothing.
use Rattle.ranges.proofs.Sides.{meets-not, meets-by}
use Rattle.ranges.proofs.side.meets.Goals as goal

-- b ends before a begins
pub returns-then-b-a : goal.returns-then-b-a
returns-then-b-a c =
    let s = c.args in
    meets-not s.a.low s.a.past s.b.low s.b.past c.if-b-a.true

-- it does not; whether a ends before b begins
pub returns : goal.returns
returns c =
    let s = c.args in
    meets-by s.a.low s.a.past s.b.low s.b.past c.if-b-a.false
