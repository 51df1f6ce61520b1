-- Scaffolding: only contracts of private functions cite this; nothing here has to be believed.
-- What private functions ask of what they are handed. No public function asks anything: it refuses.
-- Assumes nothing: these are definitions.
use Rattle.std.specs.Prelude.{ℕ, suc, ◌≤◌, ◌<◌}

-- by the starts, partition q has a place and ends within the n places
pub record PartWithin (n : ℕ) (start : ℕ → ℕ) (q : ℕ) : Type 0 where
  pub ascend : start q < start (suc q)
  pub within : start (suc q) ≤ n
