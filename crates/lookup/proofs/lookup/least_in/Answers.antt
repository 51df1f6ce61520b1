-- `lookup::lookup::least_in` meets its contract: it reads where `least_at` says.
-- Assumes nothing.
use Rattle.lookup.proofs.lookup.least_in.Goals as goal

pub returns : goal.returns
returns c = rw c.least_at.ensures
