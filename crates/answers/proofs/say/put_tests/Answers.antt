-- `answers::say::put_tests` meets its contract: a comma, the number, the line's end.
-- Assumes nothing.
use native.Mathlib.Omega.{arith}
use Rattle.text.proofs.Puts.{puts_then}
use Rattle.answers.proofs.Lengths.{tests_short}
use Rattle.answers.proofs.say.put_tests.Goals as goal

pub returns : goal.returns
returns c = record { puts = puts_then (puts_then c.byte.ensures c.number.ensures) c.text.ensures; few = tests_short _ (omega arith) }
