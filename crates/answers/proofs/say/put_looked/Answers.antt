-- `answers::say::put_looked` meets its contract: what was looked up, or the line of the number that is said of the refusal.
-- Assumes nothing.
use native.Mathlib.Omega.{arith}
use Rattle.answers.proofs.Said.{refused_line}
use Rattle.answers.proofs.say.put_looked.Goals as goal

pub returns-in-Err : goal.returns-in-Err
returns-in-Err g c = rw c.in-Err.is (refused_line (g.C.Reason.its_number c.in-Err.x.cause) c.put_refused.ensures (omega (arith, c.its_number.ensures)))
