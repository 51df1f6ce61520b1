-- Scaffolding: only contracts of private functions cite this; nothing here has to be believed.
-- What private functions ask of what they are handed. No public function asks anything: it refuses.
-- Assumes nothing: these are definitions.
use Rattle.std.specs.Prelude.{ℕ, ◌+◌, ◌≤◌, ◌<◌, length}
use Rattle.lists.specs.Limits.{most_fields}
use Rattle.lists.specs.Rules.{Rules, fields_of, offset_of}

-- rule i stands in the list up to its last field, of at most eight
pub record HasRule (R : Rules) (i : ℕ) : Type 0 where
  pub few_fields : fields_of R ≤ most_fields
  pub within : offset_of (fields_of R) i (fields_of R) ≤ length R.numbers

-- field f of rule i stands in the list
pub record HasField (R : Rules) (i f : ℕ) : Type 0 where
  pub few_fields : fields_of R ≤ most_fields
  pub field : f < fields_of R
  pub within : offset_of (fields_of R) i f + 1 < length R.numbers
