-- `phrases::say::put_refused` meets its contract: the word, and three numbers after it, of which the first is the one that is said.
-- Assumes nothing.
use native.Mathlib.Omega.{arith}
use Rattle.phrases.proofs.Said.{refusal_put}
use Rattle.phrases.proofs.say.put_refused.Goals as goal

pub returns : goal.returns
returns g c = refusal_put g.C.Reason.its_number c.args.x c.put_two.ensures c.put_spaced.ensures (omega (arith, c.its_number.ensures))
