-- `flaws::say::put_first_width` meets its contract: its parts one after the other.
-- Assumes nothing.
use Rattle.text.proofs.Puts.{puts_then}
use Rattle.flaws.proofs.say.put_first_width.Goals as goal

pub returns : goal.returns
returns c = puts_then (puts_then c.text.ensures c.put_cells.ensures) c.text-2.ensures
