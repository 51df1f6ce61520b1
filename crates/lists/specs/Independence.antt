-- Order independence: source 000, as 01, Other answers, fixes it. A list is order independent exactly when no header
-- fits two different rules; else the answer is the pair i < j that some header fits, smallest i first, then smallest j.
-- Two rules whose ranges hold a number each are fitted by one header exactly when they meet, as is defined here in the
-- list's own numbers; `proofs/Theorems.antt` shows it, and that "yes" excludes every header.
-- Assumes nothing: these are definitions.
use Rattle.std.specs.Prelude.{ℕ, Bool, List, Result, Option, Some, None, [], ◌∷◌, ltb}
use Rattle.ranges.specs.Numbers.{pick, ◌and◌, all, least}
use Rattle.ranges.specs.Sides.{meet_of}
use Rattle.ranges.specs.Refusals.{Refusal, Said, says, unless}
use Rattle.lists.specs.Rules.{Rules, fields_of, rules_in, low_of, ends_at}
use Rattle.lists.specs.Faults.{list_fault}

-- in field f, the low of each of rules i and j is before the other's end
-- (0-9 and 9-12 meet; 0-9 and 10-12 do not)
abbrev pub meet_at : Rules → ℕ → ℕ → ℕ → Bool
meet_at R i j f = meet_of (low_of R i f) (ends_at R i f) (low_of R j f) (ends_at R j f)

-- rules i and j meet: in every field
unfoldable pub meet : Rules → ℕ → ℕ → Bool
meet R i j = all (fields_of R) (meet_at R i j)

-- rule j comes after rule i and meets it
abbrev pub partners : Rules → ℕ → ℕ → Bool
partners R i j = ltb i j and meet R i j

-- the smallest rule number after i that meets rule i, and n where there is none
unfoldable pub partner_of : Rules → ℕ → ℕ
partner_of R i = least (rules_in R) (partners R i)

-- rule i has such a partner
abbrev pub has_partner : Rules → ℕ → Bool
has_partner R i = ltb (partner_of R i) (rules_in R)

-- the smallest rule number that has such a partner, and n where there is none
-- (of the bench list 0, whose partner is 3)
unfoldable pub paired : Rules → ℕ
paired R = least (rules_in R) (has_partner R)

-- the least pair, or none: the list is order independent
abbrev pub pair_of : Rules → Option (ℕ × ℕ)
pair_of R = pick (ltb (paired R) (rules_in R)) (Some (paired R, partner_of R (paired R))) None

-- the same, unless something is refused
abbrev pub independence_of : Rules → Result (Option (ℕ × ℕ)) Refusal
independence_of R = unless (list_fault R) (pair_of R)

-- what the answer says in the paper's words: 1 for yes; 0 for no, and the pair
abbrev pub pair_words : Option (ℕ × ℕ) → List ℕ
pair_words None = 1 ∷ []
pair_words (Some p) = 0 ∷ p.0 ∷ p.1 ∷ []

abbrev pub says_pair : Result (Option (ℕ × ℕ)) Refusal → Said
says_pair pair = says pair_words pair
