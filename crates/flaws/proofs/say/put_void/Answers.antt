-- `flaws::say::put_void` meets its contract: its parts one after the other.
-- Assumes nothing.
use Rattle.text.proofs.Puts.{puts_then}
use Rattle.flaws.proofs.say.put_void.Goals as goal

pub returns : goal.returns
returns c =
    puts_then (puts_then (puts_then (puts_then (puts_then (puts_then (puts_then c.text.ensures c.number.ensures) c.text-2.ensures) c.number-2.ensures) c.text-3.ensures) c.number-3.ensures) c.text-4.ensures) c.number-4.ensures
