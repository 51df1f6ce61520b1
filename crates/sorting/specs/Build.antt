-- 01, Other answers and Refusal numbers: what a build answers and leaves in the table.
-- It refuses by 1, 2, 3, 4, 5 in this order, as an audit does. A refusal leaves the table as lent.
-- Assumes nothing: these are definitions.
use Rattle.std.specs.Prelude.{ℕ, List, ◌≡◌, Result}
use Rattle.ranges.specs.Numbers.{pick}
use Rattle.ranges.specs.Refusals.{Refusal, Fault, none, or_else, stands, unless}
use Rattle.lists.specs.Rules.{Rules, fields_of, rules_in}
use Rattle.lists.specs.Faults.{list_fault}
use Rattle.sorting.specs.FirstFit.{first_fit, parts}
use Rattle.tables.specs.Layout.{TableFor}
use Rattle.tables.specs.Opening.{table_fault}
use Rattle.sorting.specs.Table.{built_table}

-- 1, 2, 3, 4, 5 in this order
unfoldable pub build_fault : Rules → List ℕ → Fault
build_fault R T = or_else (list_fault R) (table_fault R T)

-- a list that meets none of 1 to 4, and a table of the right length
pub record Buildable (R : Rules) (T : List ℕ) : Type 0 where
  pub no_fault : list_fault R ≡ none
  pub sized : TableFor (rules_in R) (fields_of R) T

-- b, the number of partitions that first fit opens
-- (3 of the bench list)
abbrev pub built_parts : Rules → ℕ
built_parts R = parts (first_fit R (rules_in R)) (rules_in R)

-- ---- build
-- b, unless something is refused
abbrev pub build_of : Rules → List ℕ → Result ℕ Refusal
build_of R T = unless (build_fault R T) (built_parts R)

-- the table afterwards: every number written, or as lent
abbrev pub table_after : Rules → List ℕ → List ℕ
table_after R T = pick (stands (build_fault R T)) (built_table R) T

-- what a build answers and leaves
pub record Built (R : Rules) (T after : List ℕ) (answer : Result ℕ Refusal) : Type 0 where
  pub answers : answer ≡ build_of R T
  pub leaves : after ≡ table_after R T
