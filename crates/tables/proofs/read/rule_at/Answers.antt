-- `tables::read::rule_at` meets its contract: it reads where the layout says.
-- Assumes nothing.
use Rattle.tables.proofs.Readers.{read_at}
use Rattle.tables.proofs.read.rule_at.Goals as goal

pub returns : goal.returns
returns c = read_at c.args.table.now.numbers.now c.number_at.ensures c.order_at.ensures
