-- `answers::say::put_found` meets its contract: the rule, whose number has few digits, or none, and then the tests.
-- Assumes nothing.
use native.Mathlib.Omega.{arith}
use Rattle.std.specs.Prelude.{None, Some}
use Rattle.text.proofs.Puts.{puts_then}
use Rattle.answers.proofs.Lengths.{few_digits, looked_short}
use Rattle.answers.proofs.say.put_found.Goals as goal

pub returns-in-Some : goal.returns-in-Some
returns-in-Some c =
    rw c.in-Some.is
    record {
      puts = puts_then c.number.ensures c.put_tests.ensures.puts;
      short = looked_short (Some c.in-Some.found) _ (few_digits _ (omega arith)) c.put_tests.ensures.few;
    }

pub returns-in-None : goal.returns-in-None
returns-in-None c =
    rw c.in-None.is
    record {
      puts = puts_then c.text.ensures c.put_tests-in-None.ensures.puts;
      short = looked_short None _ (omega arith) c.put_tests-in-None.ensures.few;
    }
