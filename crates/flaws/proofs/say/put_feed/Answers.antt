-- `flaws::say::put_feed` meets its contract: its parts one after the other.
-- Assumes nothing.
use Rattle.text.proofs.Puts.{puts_then}
use Rattle.flaws.proofs.say.put_feed.Goals as goal

pub returns : goal.returns
returns c = puts_then c.text.ensures c.text-2.ensures
