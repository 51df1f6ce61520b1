-- `text::put::Out::number` meets its contract: the digits of n / 10, and then the last.
-- Assumes nothing.
use Rattle.text.proofs.Puts.{puts_then}
use Rattle.text.proofs.Decimals.{decimal_more}
use Rattle.text.proofs.put.Out.+number.Goals as goal

pub returns-else-n-lt10 : goal.returns-else-n-lt10
returns-else-n-lt10 t c = rw (decimal_more c.args.n c.if-n-lt10.false) (puts_then c.number.ensures c.byte-else-n-lt10.ensures)
