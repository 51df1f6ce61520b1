-- `lookup::walk::to_in` meets its contract: it reads where `to_at` says.
-- Assumes nothing.
use Rattle.lookup.proofs.walk.to_in.Goals as goal

pub returns : goal.returns
returns c = rw c.to_at.ensures
