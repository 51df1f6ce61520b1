-- Scaffolding: only contracts of private functions cite this; nothing here has to be believed.
-- How `first_fit` finds the lowest free partition of a rule: by stamps, one a partition, that hold one more than the number of
-- the last rule for which the partition was found taken. No stamp is ever cleared. The contract of `first_fit` does not speak of
-- them; those of the functions below it do.
-- Assumes nothing: these are definitions.
use Rattle.std.specs.Prelude.{ℕ, suc, ◌+◌, ◌≤◌, ◌<◌, not, List, ◌≡◌, length, get_or, eqb}
use Rattle.ranges.specs.Numbers.{pick, least, tab}
use Rattle.lists.specs.Limits.{most_rules}
use Rattle.lists.specs.Rules.{Rules, rules_in, Shaped}
use Rattle.ordering.specs.Order.{clash}
use Rattle.sorting.specs.FirstFit.{part_of, free}

-- the stamp of rule i: no partition has it before rule i is taken
abbrev pub stamp_of : ℕ → ℕ
stamp_of i = i + 1

-- the stamp of rule j's partition, which was old, once rule i is held against rule j
abbrev pub mark_of : Rules → ℕ → ℕ → ℕ → ℕ
mark_of R i j old = pick (eqb old (stamp_of i)) old (pick (clash R j i) (stamp_of i) old)

-- the stamps once rule i is held against all rules before it: taken partitions have its stamp, the others keep theirs
unfoldable pub stamped : Rules → List ℕ → ℕ → List ℕ → List ℕ
stamped R run i stamps = tab most_rules (λ q. pick (free R run i q) (get_or stamps q 0) (stamp_of i))

-- the lowest of the partitions 0 to i without rule i's stamp, and i + 1 where there is none
unfoldable pub unstamped : ℕ → List ℕ → ℕ
unstamped i stamps = least (suc i) (λ q. not (eqb (get_or stamps q 0) (stamp_of i)))

-- what is asked where rule i is held against the rules before it: their partition numbers, and stamps of rules before it
pub record Marking (R : Rules) (run : List ℕ) (i : ℕ) (stamps : List ℕ) : Type 0 where
  pub shape_stands : Shaped R
  pub rule : i < rules_in R
  pub taken : length run ≡ i
  pub numbers : (j : ℕ) → j < i → part_of run j ≤ j
  pub long : length stamps ≡ most_rules
  pub fresh : (q : ℕ) → get_or stamps q 0 ≤ i
