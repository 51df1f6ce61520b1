-- What the bound on tests speaks of: the largest power of two within a number, the tests of a visit, which partitions are skipped, a sum,
-- and the list and the header that reach the bound.
-- Assumes nothing: these are definitions.
use Rattle.std.specs.Prelude.{ℕ, zero, suc, ◌+◌, ◌*◌, ◌/◌, ◌%◌, ◌^◌, ◌≤◌, ◌<◌, Bool, true, false, List, Option, None, Result, Ok, Err}
use Rattle.ranges.specs.Numbers.{tab}
use Rattle.ranges.specs.Refusals.{Refusal}
use Rattle.lists.specs.Rules.{Rules, listed, rules_in}
use Rattle.tables.specs.Layout.{View}
use Rattle.lookup.specs.Walk.{Walked}
use Rattle.lookup.specs.Lookup.{skips, turn_of, better}
use Rattle.lookup.specs.declared.lookup.Looked.{Looked}

-- k is the largest whole number with 2^k ≤ m
-- (of 1 it is 0, of 2 and 3 it is 1, of 1,024 it is 10)
pub record PowerWithin (m k : ℕ) : Type 0 where
  pub within : 2 ^ k ≤ m
  pub largest : m < 2 ^ suc k

-- the tests of a walk
abbrev pub tests_of : Walked → ℕ
tests_of (Ok x) = x.tests
tests_of (Err x) = 0

-- what a walk found: a broken one nothing
abbrev pub found_by : Walked → Option ℕ
found_by (Ok x) = x.found
found_by (Err x) = None

-- the smallest candidate of the partitions before q, each by its turn; n where there is none
unfoldable pub candidate : ℕ → (ℕ → ℕ → Walked) → ℕ → ℕ
candidate n turn zero = n
candidate n turn (suc q) = better (candidate n turn q) (found_by (turn (candidate n turn q) q))

-- the turn of partition q as it is made: with the candidate of those before
abbrev pub turn_made : ℕ → (ℕ → ℕ → Walked) → ℕ → Walked
turn_made n turn q = turn (candidate n turn q) q

-- a lookup skips partition q
abbrev pub is_skipped : Rules → View → List ℕ → ℕ → Bool
is_skipped R v h q = skips (rules_in R) v.least (candidate (rules_in R) (turn_of R v h) q) q

-- g q + g (q + 1) + .., k summands
unfoldable pub sum_from : ℕ → ℕ → (ℕ → ℕ) → ℕ
sum_from zero q g = 0
sum_from (suc k) q g = g q + sum_from k (suc q) g

-- the answer is a refusal
abbrev pub refuses : Result Looked Refusal → Bool
refuses (Ok x) = false
refuses (Err x) = true

-- m rules of d fields, with any flags: rule i is 2i to 2i + 1 in every field, so every low stands at an even place and every high at
-- an odd one; of dates it holds 2i alone
-- (of d = 2, m = 2: 0 1 0 1 2 3 2 3)
abbrev pub ladder : ℕ → ℕ → ℕ → Rules
ladder d dates m = listed record { d = d; dates = dates } (tab (m * d * 2) (λ c. c / (d * 2) * 2 + c % 2))
