-- `lookup::lookup::start_in` meets its contract: it reads where `start_at` says.
-- Assumes nothing.
use Rattle.lookup.proofs.lookup.start_in.Goals as goal

pub returns : goal.returns
returns c = rw c.start_at.ensures
