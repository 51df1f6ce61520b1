-- `answers::complain::put_counted` meets its contract: its parts one after the other.
-- Assumes nothing.
use Rattle.text.proofs.Puts.{puts_then}
use Rattle.answers.proofs.complain.put_counted.Goals as goal

pub returns : goal.returns
returns c = puts_then c.number.ensures c.put_plural.ensures
