-- `answers::say::put_refused` meets its contract: the word, the number, the line's end.
-- Assumes nothing.
use native.Mathlib.Omega.{arith}
use Rattle.text.proofs.Puts.{puts_then}
use Rattle.answers.proofs.Lengths.{refused_short}
use Rattle.answers.proofs.say.put_refused.Goals as goal

pub returns : goal.returns
returns c = record { puts = puts_then (puts_then c.text.ensures c.number.ensures) c.text-2.ensures; short = refused_short _ (omega arith) }
