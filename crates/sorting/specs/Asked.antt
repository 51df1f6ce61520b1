-- Scaffolding: only contracts of private functions cite this; nothing here has to be believed.
-- What the crate's private functions ask of what they are handed. No public function asks anything: it refuses.
-- Assumes nothing: these are definitions.
use Rattle.std.specs.Prelude.{ℕ, ◌≤◌, ◌<◌, Bool, false, not, List, ◌≡◌, length, get_or, eqb}
use Rattle.lists.specs.Rules.{Rules, fields_of, rules_in, Shaped}
use Rattle.lists.specs.Faults.{list_fault}
use Rattle.ranges.specs.Numbers.{all, tab}
use Rattle.ranges.specs.Refusals.{none}
use Rattle.lists.specs.Limits.{most_rules}
use Rattle.sorting.specs.FirstFit.{Choice, part_of, parts}
use Rattle.tables.specs.Layout.{TableFor}
use Rattle.sorting.specs.Table.{rule_at}

-- rules i and j of a list whose shape stands
pub record TwoRules (R : Rules) (i j : ℕ) : Type 0 where
  pub shape_stands : Shaped R
  pub first : i < rules_in R
  pub second : j < rules_in R

-- a list whose shape stands, and a run with a number for each of its rules
pub record Numbered (R : Rules) (run : List ℕ) : Type 0 where
  pub shape_stands : Shaped R
  pub one_each : length run ≡ rules_in R

-- a list that meets none of 1 to 4, and a run that is a choice of partitions for it
pub record Dealt (R : Rules) (run : List ℕ) : Type 0 where
  pub no_fault : list_fault R ≡ none
  pub one_each : length run ≡ rules_in R
  pub choice : Choice R run (parts run (rules_in R))

-- the same, with the rules in the order of their places
pub record SortedOut (R : Rules) (run order : List ℕ) : Type 0 where
  pub dealt : Dealt R run
  pub in_order : order ≡ tab (rules_in R) (rule_at R run)

-- the same, with a table of the right length
pub record SortedFor (R : Rules) (run order T : List ℕ) : Type 0 where
  pub sorted_out : SortedOut R run order
  pub sized : TableFor (rules_in R) (fields_of R) T

-- a list and a choice of partitions, with a table of the right length
pub record Laying (R : Rules) (run : List ℕ) (T : List ℕ) : Type 0 where
  pub dealt : Dealt R run
  pub sized : TableFor (rules_in R) (fields_of R) T

-- a run whose numbers are all below 1,024, of which it has no more
pub record Fitting (run : List ℕ) : Type 0 where
  pub few : length run ≤ most_rules
  pub below : (i : ℕ) → i < length run → part_of run i < most_rules

-- the marks of the numbers g 0 to g (k - 1): true where a number is one of them
pub record Seen (g : ℕ → ℕ) (k : ℕ) (marks : List Bool) : Type 0 where
  pub long : length marks ≡ most_rules
  pub marked : (q : ℕ) → q < most_rules → get_or marks q false ≡ not (all k (λ i. not (eqb (g i) q)))
