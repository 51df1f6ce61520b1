-- `flaws::say::put_not_number` meets its contract: its parts one after the other.
-- Assumes nothing.
use Rattle.text.proofs.Puts.{puts_then}
use Rattle.flaws.proofs.say.put_not_number.Goals as goal

pub returns : goal.returns
returns c = puts_then (puts_then c.text.ensures c.put_count.ensures) c.text-2.ensures
