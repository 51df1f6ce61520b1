-- `phrases::say::put_two` meets its contract: the text and a number, and a number after them.
-- Assumes nothing.
use native.Mathlib.Omega.{arith}
use Rattle.phrases.proofs.Few.{few_then, few_more}
use Rattle.phrases.proofs.say.put_two.Goals as goal

pub returns : goal.returns
returns c = few_more (omega arith) (few_then c.put_one.ensures c.put_spaced.ensures)
