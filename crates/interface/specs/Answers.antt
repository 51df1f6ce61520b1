-- How an answer goes out: the refusal number is returned, and a run of numbers of a fixed length that the caller lends
-- gets the number, the place (at, then), and then what the operation answers. What an operation answers in which case is
-- said by the library's own definitions (`says_count` and the like); here it is only laid out.
-- Assumes nothing: these are definitions.
use Rattle.std.specs.Prelude.{ℕ, ◌-◌, ◌≡◌, List, [], ◌∷◌, ◌++◌, length, replicate, Option, Some, None, Result}
use Rattle.ranges.specs.Numbers.{bit}
use Rattle.ranges.specs.Refusals.{Refusal, number_of, Said, says}
use Rattle.lists.specs.Rules.{Rules, listed}
use Rattle.lookup.specs.declared.lookup.Looked.{Looked}
use Rattle.lookup.specs.declared.lookup.Match.{Match}

-- number, at, then, and what is answered in k numbers: those after the answer are 0, and a refusal leaves all k at 0
-- (a scan, k = 2, that finds rule 3: 0, 0, 0, 1, 3; that finds none: 0, 0, 0, 0, 0; refused with 4 at rule 2, field 1: 4, 2, 1, 0, 0)
abbrev pub numbers_of : ℕ → Said → List ℕ
numbers_of k s = s.number ∷ s.at ∷ s.then ∷ (s.answer ++ replicate (k - length s.answer) 0)

-- what a caller is told: r is returned, and run holds the numbers
pub record Told (k : ℕ) (s : Said) (r : ℕ) (run : List ℕ) : Type 0 where
  pub returned : r ≡ s.number
  pub written : run ≡ numbers_of k s

-- what a refusal says, whatever is answered where nothing is refused
abbrev pub says_refusal : Refusal → Said
says_refusal x = record { number = number_of x.cause; at = x.at; then = x.then; answer = [] }

-- a list as lent, of rules of d fields, and the flags that say which fields are dates
abbrev pub rules_of : ℕ → ℕ → List ℕ → Rules
rules_of d dates l = listed record { d = d; dates = dates } l

-- what a lookup says with each number at its own place: 1, the rule number, the tests, and 1 at an edge, else 0; 0, 0, the
-- tests and 0 where no rule fits (`says_looked` leaves the rule number out there, which would move the tests)
abbrev pub looked_in_place : Option Match → ℕ → List ℕ
looked_in_place (Some m) t = 1 ∷ m.rule ∷ t ∷ bit m.edge ∷ []
looked_in_place None t = 0 ∷ 0 ∷ t ∷ 0 ∷ []

abbrev pub says_in_place : Result Looked Refusal → Said
says_in_place looked = says (λ (l : Looked). looked_in_place l.found l.tests) looked
