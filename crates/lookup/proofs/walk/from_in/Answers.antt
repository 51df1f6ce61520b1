-- `lookup::walk::from_in` meets its contract: it reads where `from_at` says.
-- Assumes nothing.
use Rattle.lookup.proofs.walk.from_in.Goals as goal

pub returns : goal.returns
returns c = rw c.from_at.ensures
