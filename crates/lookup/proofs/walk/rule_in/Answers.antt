-- `lookup::walk::rule_in` meets its contract: it reads where `order_at` says.
-- Assumes nothing.
use Rattle.lookup.proofs.walk.rule_in.Goals as goal

pub returns : goal.returns
returns c = rw c.order_at.ensures
