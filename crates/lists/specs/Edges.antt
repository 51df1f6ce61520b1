-- 02, W2: whether a rule has a field at an end of its range, by the single range test of the header's number in each of the d fields.
-- A header is a list of its eight numbers; only the first d are read.
-- Assumes nothing: these are definitions.
use Rattle.std.specs.Prelude.{ℕ, Bool, List, get_or}
use Rattle.ranges.specs.Numbers.{◌and◌, any}
use Rattle.ranges.specs.Spots.{spot_of, at_end}
use Rattle.ranges.specs.declared.spot.Spot.{Spot}
use Rattle.lists.specs.Rules.{Rules, fields_of, low_of, ends_at}
use Rattle.lists.specs.Faults.{in_list}

-- where the header's number in field f lies as against the ends of rule i's range
abbrev pub spot_at : Rules → List ℕ → ℕ → ℕ → Spot
spot_at R h i f = spot_of (low_of R i f) (ends_at R i f) (get_or h f 0)

-- it is at an end
abbrev pub end_at : Rules → List ℕ → ℕ → ℕ → Bool
end_at R h i f = at_end (spot_at R h i f)

-- rule i has a field at an end, one of the d fields
-- (of the bench list, header 7, 250: rule 1, 7-7 and 200-299, by field 0; header 5, 5: rule 4, 0-9 and 0-999, has none)
unfoldable pub edge_of : Rules → List ℕ → ℕ → Bool
edge_of R h i = any (fields_of R) (end_at R h i)

-- d is 1 to 8, the list has a rule i, and it has a field at an end
unfoldable pub rule_edge : Rules → List ℕ → ℕ → Bool
rule_edge R h i = in_list R i and edge_of R h i
