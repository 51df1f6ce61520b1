-- The answers that the check does not find alone.
use native.Mathlib.Omega.{arith}
use Rattle.phrases.proofs.Few.{few_then, few_more}
use Rattle.phrases.proofs.say.put_rule.Goals as goal

-- a rule
pub returns-in-Some : goal.returns-in-Some
returns-in-Some c =
    rw c.in-Some.is (few_more (omega arith) (few_then c.put_two.ensures c.put_edge.ensures))

-- none
pub returns-in-None : goal.returns-in-None
returns-in-None c =
    rw c.in-None.is (few_more (omega arith) (few_then c.put_one.ensures c.put_edge-in-None.ensures))
