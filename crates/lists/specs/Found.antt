-- What a search for the least number below n answers, where k is the least that passes, and n where none does: k, or none.
-- Assumes nothing: these are definitions.
use Rattle.std.specs.Prelude.{ℕ, Option, Some, None, ltb}
use Rattle.ranges.specs.Numbers.{pick}

abbrev pub found_below : ℕ → ℕ → Option ℕ
found_below n k = pick (ltb k n) (Some k) None
