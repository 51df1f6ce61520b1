-- What is told of the first bytes of a run, as many as stand before a place, that were to be written. Whether a write goes through is the
-- system's; a run that has not as many is told as not written.
-- Assumes nothing: this is a definition.
use Rattle.std.specs.Prelude.{ℕ, ◌<◌, Bool, false, List, ◌≡◌, length}

abbrev pub ShortTold : List ℕ → ℕ → Bool → Type 0
ShortTold out at told = length out < at → told ≡ false
