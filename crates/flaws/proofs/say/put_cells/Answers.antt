-- `flaws::say::put_cells` meets its contract: its parts one after the other.
-- Assumes nothing.
use Rattle.text.proofs.Puts.{puts_then}
use Rattle.flaws.proofs.say.put_cells.Goals as goal

pub returns : goal.returns
returns c = puts_then c.put_count.ensures c.put_plural.ensures
