-- 02, W4: a run of partition numbers that someone brings, one a rule, and what a choice and a laying out answer and leave.
-- A choice refuses by 1, 2, 3, 4, 15 in this order, a laying out by 1, 2, 3, 4, 5, 15, 16, 17, 18. Each is tested over all rules
-- before the next. A refusal leaves run and table as lent.
-- Assumes nothing: these are definitions.
use Rattle.std.specs.Prelude.{ℕ, Bool, not, List, ◌≡◌, length, ltb, eqb, Result}
use Rattle.ranges.specs.Numbers.{pick, ◌and◌, all}
use Rattle.ranges.specs.Refusals.{Refusal, Fault, none, refused, or_else, stands, unless}
use Rattle.ranges.specs.declared.refusal.Cause.TheVariants.{BadRunLength, BadPartitionNumber, EmptyPartition, ClashInPartition}
use Rattle.lists.specs.Rules.{Rules, rules_in}
use Rattle.lists.specs.Faults.{list_fault}
use Rattle.ordering.specs.Order.{clash}
use Rattle.sorting.specs.FirstFit.{part_of, free, first_fit, parts}
use Rattle.sorting.specs.Table.{table_of}
use Rattle.sorting.specs.Build.{build_fault, built_parts}

-- ---- what is wrong with a run
-- 15: it does not have one number for each rule
unfoldable pub length_fault : Rules → List ℕ → Fault
length_fault R run = pick (eqb (length run) (rules_in R)) none (refused BadRunLength)

-- not 16: of n numbers, each is below n
unfoldable pub numbers_fit : ℕ → List ℕ → Bool
numbers_fit n run = all n (λ i. ltb (part_of run i) n)

-- one of the first n numbers is q
abbrev pub is_used : ℕ → List ℕ → ℕ → Bool
is_used n run q = not (all n (λ i. not (eqb (part_of run i) q)))

-- not 17: each number up to the largest is used
unfoldable pub no_gap : ℕ → List ℕ → Bool
no_gap n run = all (parts run n) (is_used n run)

-- rules i and j have different numbers or do not clash
abbrev pub is_apart : Rules → List ℕ → ℕ → ℕ → Bool
is_apart R run i j = not (eqb (part_of run j) (part_of run i) and clash R j i)

-- not 18: no rule clashes with an earlier one of its partition
unfoldable pub no_clash : Rules → List ℕ → Bool
no_clash R run = all (rules_in R) (λ i. free R run i (part_of run i))

-- 15, 16, 17, 18 in this order
unfoldable pub run_fault : Rules → List ℕ → Fault
run_fault R run =
    or_else (length_fault R run)
    (or_else (pick (numbers_fit (rules_in R) run) none (refused BadPartitionNumber))
    (or_else (pick (no_gap (rules_in R) run) none (refused EmptyPartition))
    (pick (no_clash R run) none (refused ClashInPartition))))

-- ---- choose
-- 1, 2, 3, 4, 15 in this order
unfoldable pub choose_fault : Rules → List ℕ → Fault
choose_fault R run = or_else (list_fault R) (length_fault R run)

-- b, unless something is refused
abbrev pub choose_of : Rules → List ℕ → Result ℕ Refusal
choose_of R run = unless (choose_fault R run) (built_parts R)

-- the run afterwards: each rule's first-fit partition number, or as lent
abbrev pub run_after : Rules → List ℕ → List ℕ
run_after R run = pick (stands (choose_fault R run)) (first_fit R (rules_in R)) run

-- what a choice answers and leaves
pub record ChosenInto (R : Rules) (run after : List ℕ) (answer : Result ℕ Refusal) : Type 0 where
  pub answers : answer ≡ choose_of R run
  pub leaves : after ≡ run_after R run

-- ---- lay out
-- 1, 2, 3, 4, 5, 15, 16, 17, 18 in this order
unfoldable pub lay_fault : Rules → List ℕ → List ℕ → Fault
lay_fault R run T = or_else (build_fault R T) (run_fault R run)

-- b, unless something is refused
abbrev pub lay_out_of : Rules → List ℕ → List ℕ → Result ℕ Refusal
lay_out_of R run T = unless (lay_fault R run T) (parts run (rules_in R))

-- the table afterwards: every number written, or as lent
abbrev pub laid_after : Rules → List ℕ → List ℕ → List ℕ
laid_after R run T = pick (stands (lay_fault R run T)) (table_of R run) T

-- what a laying out answers and leaves
pub record LaidInto (R : Rules) (run T after : List ℕ) (answer : Result ℕ Refusal) : Type 0 where
  pub answers : answer ≡ lay_out_of R run T
  pub leaves : after ≡ laid_after R run T
