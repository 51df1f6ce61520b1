-- The answer that the check does not find alone.
use Rattle.hearing.proofs.Lines.{heard_all}
use Rattle.hearing.proofs.line.hear.Goals as goal

pub returns : goal.returns
returns c = heard_all _ c.hear_word-word.ensures c.loop-byte.invariant c.loop-byte-test.false
