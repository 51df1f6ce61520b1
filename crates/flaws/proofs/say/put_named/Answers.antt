-- `flaws::say::put_named` meets its contract: its parts one after the other.
-- Assumes nothing.
use Rattle.text.proofs.Puts.{puts_then}
use Rattle.flaws.proofs.say.put_named.Goals as goal

pub returns : goal.returns
returns c = puts_then (puts_then c.text.ensures c.text-2.ensures) c.text-3.ensures
