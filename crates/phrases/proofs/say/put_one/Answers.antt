-- `phrases::say::put_one` meets its contract: the text, and a number after it.
-- Assumes nothing.
use native.Mathlib.Omega.{arith}
use Rattle.phrases.proofs.Few.{few_text, few_then}
use Rattle.phrases.proofs.say.put_one.Goals as goal

pub returns : goal.returns
returns c = few_then (few_text _ (omega arith) c.text.ensures) c.put_spaced.ensures
