-- 01, Other answers: the plain scan answers the first match, or none, unless one of the refusals 1 to 4 applies.
-- Assumes nothing: these are definitions.
use Rattle.std.specs.Prelude.{ℕ, Bool, List, Result, Option, Some, None, [], ◌∷◌}
use Rattle.ranges.specs.Numbers.{◌and◌}
use Rattle.ranges.specs.Refusals.{Refusal, Said, says, unless}
use Rattle.lists.specs.Rules.{Rules, rules_in}
use Rattle.lists.specs.Faults.{in_list, list_fault}
use Rattle.lists.specs.FirstMatch.{fits, first_match}
use Rattle.lists.specs.Found.{found_below}

-- d is 1 to 8, the list has a rule i, and it fits the header
unfoldable pub fits_in : Rules → List ℕ → ℕ → Bool
fits_in R h i = in_list R i and fits R h i

-- the first match, or none
abbrev pub match_of : Rules → List ℕ → Option ℕ
match_of R h = found_below (rules_in R) (first_match R h)

-- the same, unless something is refused
abbrev pub scan_of : Rules → List ℕ → Result (Option ℕ) Refusal
scan_of R h = unless (list_fault R) (match_of R h)

-- what the answer says in the paper's words: 1 and the rule number of a match, 0 for none
abbrev pub match_words : Option ℕ → List ℕ
match_words (Some i) = 1 ∷ i ∷ []
match_words None = 0 ∷ []

abbrev pub says_match : Result (Option ℕ) Refusal → Said
says_match found = says match_words found
