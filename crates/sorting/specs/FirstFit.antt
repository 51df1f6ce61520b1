-- 01, Order and partitions: first fit, and what any choice of partitions has to be.
-- A choice is a run of partition numbers, one a rule.
-- Assumes nothing: these are definitions.
use Rattle.std.specs.Prelude.{ℕ, zero, suc, max, ◌<◌, Bool, false, not, List, [], ◌∷◌, ◌++◌, ◌≡◌, get_or, eqb}
use Rattle.ranges.specs.Numbers.{◌and◌, all, least}
use Rattle.lists.specs.Rules.{Rules, rules_in}
use Rattle.ordering.specs.Order.{clash}

-- the partition number of rule i
abbrev pub part_of : List ℕ → ℕ → ℕ
part_of run i = get_or run i 0

-- rule i clashes with no member of partition q among the rules before it
abbrev pub free : Rules → List ℕ → ℕ → ℕ → Bool
free R run i q = all i (λ j. not (eqb (part_of run j) q and clash R j i))

-- the lowest-numbered partition that is free for rule i; one of 0 to i is
unfoldable pub fit_of : Rules → List ℕ → ℕ → ℕ
fit_of R run i = least (suc i) (free R run i)

-- first fit of the first k rules, taken in rule order
-- (of the bench list: 0 0 0 1 2)
unfoldable pub first_fit : Rules → ℕ → List ℕ
first_fit R zero = []
first_fit R (suc k) = first_fit R k ++ (fit_of R (first_fit R k) k ∷ [])

-- how many partitions the first k rules open: one more than the largest number
unfoldable pub parts : List ℕ → ℕ → ℕ
parts run zero = 0
parts run (suc k) = max (parts run k) (suc (part_of run k))

-- a choice of b partitions without clashes and gaps
pub record Choice (R : Rules) (run : List ℕ) (b : ℕ) : Type 0 where
  pub below : (i : ℕ) → i < rules_in R → part_of run i < b
  pub used : (q : ℕ) → q < b → (i : ℕ) × (i < rules_in R) × (part_of run i ≡ q)
  pub apart : (i j : ℕ) → i < j → j < rules_in R → part_of run i ≡ part_of run j → clash R i j ≡ false

-- what the choice by first fit is: each rule's number in the run, and how many partitions that opens
pub record Chosen (R : Rules) (run : List ℕ) (b : ℕ) : Type 0 where
  pub numbers : run ≡ first_fit R (rules_in R)
  pub opened : b ≡ parts (first_fit R (rules_in R)) (rules_in R)
