-- 01, Lists and headers: how many fields, rules and numbers a list has at most. Everything that speaks of a limit goes through these.
-- Assumes nothing: these are definitions.
use Rattle.std.specs.Prelude.{ℕ, ◌*◌}

-- the most fields of a rule
abbrev pub most_fields : ℕ
most_fields = 8

-- the most rules of a list
abbrev pub most_rules : ℕ
most_rules = 1024

-- the full length of a list of d fields: 2d numbers a rule, with room for the most rules
abbrev pub full_length : ℕ → ℕ
full_length d = most_rules * d * 2

-- the most numbers of a list: 2d a rule
abbrev pub most_numbers : ℕ
most_numbers = most_rules * most_fields * 2
