-- 01, The walk and Refusal numbers: a partition visited, all of them in order, and what a lookup answers; 02, W2: whether the rule that wins
-- has a field at an end of its range; 02, W5: a partition whose stored number is greater than the candidate is skipped.
-- Assumes nothing: these are definitions.
use Rattle.std.specs.Prelude.{ℕ, zero, suc, ◌+◌, min, Bool, false, List, [], ◌∷◌, Option, Some, None, Result, Ok, Err, ltb}
use Rattle.ranges.specs.Numbers.{pick, bit, ◌and◌}
use Rattle.ranges.specs.Refusals.{Refusal, refused, or_else, Said, says}
use Rattle.ranges.specs.declared.refusal.Cause.TheVariants.{BrokenTable}
use Rattle.lists.specs.Rules.{Rules, fields_of, rules_in}
use Rattle.lists.specs.Edges.{edge_of}
use Rattle.tables.specs.Layout.{View}
use Rattle.tables.specs.Opening.{part_stands, view_of, open_fault}
use Rattle.lookup.specs.Walk.{Walked, ran, broken_walk, walk_from}
use Rattle.lookup.specs.declared.lookup.Looked.{Looked}
use Rattle.lookup.specs.declared.lookup.Match.{Match}

-- partition q visited: broken where its start is not before the next or the next is past n; else the walk through its
-- places, from field 0
unfoldable pub visit_of : Rules → View → List ℕ → ℕ → Walked
visit_of R v h q =
    pick (part_stands (rules_in R) v.start q)
    (walk_from R v h (suc (rules_in R + fields_of R)) (v.start q) (v.start (suc q)) 0 0)
    broken_walk

-- partition q is skipped: there is a candidate, and the number that is stored for q is greater
abbrev pub skips : ℕ → (ℕ → ℕ) → ℕ → ℕ → Bool
skips n least best q = ltb best n and ltb best (least q)

-- the turn of partition q, with the smallest candidate so far: where it is skipped a miss without a test, else it is visited
unfoldable pub turn_of : Rules → View → List ℕ → ℕ → ℕ → Walked
turn_of R v h best q = pick (skips (rules_in R) v.least best q) (ran None 0) (visit_of R v h q)

-- the smaller candidate, where n stands for none
abbrev pub better : ℕ → Option ℕ → ℕ
better best None = best
better best (Some i) = min best i

-- the same of two candidates, where either may be none
abbrev pub sooner : Option ℕ → Option ℕ → Option ℕ
sooner None found = found
sooner (Some i) None = Some i
sooner (Some i) (Some j) = Some (min i j)

-- what follows a visit: a broken partition refuses the whole call
abbrev pub after_visit : Walked → (Option ℕ → ℕ → Result Looked Refusal) → Result Looked Refusal
after_visit (Ok x) next = next x.found x.tests
after_visit (Err x) next = refused BrokenTable

-- an answer: rule i with its edge, or none, with t tests made
abbrev pub matched : ℕ → ℕ → Bool → Result Looked Refusal
matched i t e = Ok record { found = Some record { rule = i; edge = e }; tests = t }

abbrev pub unmatched : ℕ → Result Looked Refusal
unmatched t = Ok record { found = None; tests = t }

-- the smallest candidate, with whether it has a field at an end; or none; with t tests made
abbrev pub answer_of : Rules → List ℕ → ℕ → ℕ → Result Looked Refusal
answer_of R h best t = pick (ltb best (rules_in R)) (matched best t (edge_of R h best)) (unmatched t)

-- the k partitions from q on, with the smallest candidate and the tests of those before; `turn best q` is what the turn of partition q is
unfoldable pub lookup_from : Rules → List ℕ → (ℕ → ℕ → Walked) → ℕ → ℕ → ℕ → ℕ → Result Looked Refusal
lookup_from R h turn zero q best t = answer_of R h best t
lookup_from R h turn (suc k) q best t = after_visit (turn best q) (λ x u. lookup_from R h turn k (suc q) (better best x) (t + u))

-- all b partitions in order
abbrev pub search_of : Rules → View → List ℕ → Result Looked Refusal
search_of R v h = lookup_from R h (turn_of R v h) v.b 0 (rules_in R) 0

-- 01's search, which skips none: what the other is held against
abbrev pub search_all : Rules → View → List ℕ → Result Looked Refusal
search_all R v h = lookup_from R h (λ best. visit_of R v h) v.b 0 (rules_in R) 0

-- the lookup: 1, 2, 3, 5 and 6 for the opening, then all partitions
unfoldable pub lookup_of : Rules → List ℕ → List ℕ → Result Looked Refusal
lookup_of R T h = or_else (open_fault R T) (search_of R (view_of R T) h)

-- what the answer says in the paper's words: 1, the rule number, the tests, and 1 at an edge, else 0; 0, the tests and 0
-- where there is no match; a refusal carries no match
abbrev pub looked_words : Option Match → ℕ → List ℕ
looked_words (Some m) t = 1 ∷ m.rule ∷ t ∷ bit m.edge ∷ []
looked_words None t = 0 ∷ t ∷ 0 ∷ []

abbrev pub says_looked : Result Looked Refusal → Said
says_looked w = says (λ (x : Looked). looked_words x.found x.tests) w

-- its match: one rule number, or none
abbrev pub rule_of : Option Match → List ℕ
rule_of (Some m) = m.rule ∷ []
rule_of None = []

abbrev pub match_in : Result Looked Refusal → List ℕ
match_in (Ok x) = rule_of x.found
match_in (Err x) = []

-- its count of tests, 0 for a refusal
abbrev pub tests_in : Result Looked Refusal → ℕ
tests_in (Ok x) = x.tests
tests_in (Err x) = 0

-- its edge: whether the rule that wins has a field at an end; none and a refusal have no edge
abbrev pub edge_with : Option Match → Bool
edge_with (Some m) = m.edge
edge_with None = false

abbrev pub edge_in : Result Looked Refusal → Bool
edge_in (Ok x) = edge_with x.found
edge_in (Err x) = false
