-- `calls::answer::answer` meets its contract: the answer, and then LF.
-- Assumes nothing.
use native.Mathlib.Omega.{arith}
use Rattle.phrases.proofs.Few.{few_text, few_then, few_more}
use Rattle.calls.proofs.answer.answer.Goals as goal

pub returns-clause-put_few : goal.returns-clause-put_few
returns-clause-put_few c =
    few_more (omega arith) (few_then c.put_answer.ensures.put_few (few_text 1 (omega arith) c.byte.ensures))
