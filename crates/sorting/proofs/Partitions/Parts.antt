-- Laws of how many partitions a run of partition numbers opens (`specs/FirstFit.antt`).
--     parts_none, parts_more         no rule; one rule more
--     parts-over, parts-least        more than each number; the least that is
--     parts_turn                     the loop that takes one number after the other
--     choice_parts                   a choice of b partitions opens b
-- Assumes nothing.
use Prim.Native.Nat.{ℕ, zero, suc, max, ◌+◌, ◌≤◌, ◌<◌}
use mathlib.Core.List.{List}
use mathlib.Core.Path.{◌≡◌, refl, ap}
use mathlib.Core.Logic.{⊎_elim}
use native.Mathlib.Omega.{arith}
use native.Mathlib.Nat.{eq-or-lt_of_le, le_of_suc-le-suc}
use native.Mathlib.Numerals.{add-one}
use Rattle.lists.specs.Rules.{Rules, rules_in}
use Rattle.sorting.specs.FirstFit.{part_of, parts, Choice}

module _ (run : List ℕ) where
  pub parts_none : parts run 0 ≡ 0
  unfolding parts
  parts_none = refl

  pub parts_more : (k : ℕ) → parts run (k + 1) ≡ max (parts run k) (suc (part_of run k))
  unfolding parts
  parts_more k = rw add-one

  pub parts-over : (k i : ℕ) → i < k → part_of run i < parts run k
  unfolding parts
  parts-over zero i lt = absurd (omega arith)
  parts-over (suc k) i lt =
      ⊎_elim
      (λ e. let same : part_of run i ≡ part_of run k = ap (part_of run) e in omega arith)
      (λ l. let under : part_of run i < parts run k = parts-over k i l in omega arith)
      (eq-or-lt_of_le (le_of_suc-le-suc lt))

  pub parts-least : (k b : ℕ) → ((i : ℕ) → i < k → part_of run i < b) → parts run k ≤ b
  unfolding parts
  parts-least zero b h = omega arith
  parts-least (suc k) b h =
      let under : parts run k ≤ b = parts-least k b (λ i l. h i (omega arith)) in
      let here : part_of run k < b = h k (omega arith) in
      omega arith

-- the loop that takes one number after the other: b is how many partitions the first i open
pub parts_turn : (run : List ℕ) (b i : ℕ) → b ≡ parts run i → max b (part_of run i + 1) ≡ parts run (i + 1)
parts_turn run b i is = rw (is, parts_more run i, add-one (part_of run i))

-- a choice of b partitions opens b: its numbers are below b, and the last of them is used
all_opened : (R : Rules) (run : List ℕ) (b : ℕ) → Choice R run b → parts run (rules_in R) ≡ b
all_opened R run zero c = let few = parts-least run (rules_in R) 0 c.below in omega arith
all_opened R run (suc b) c =
    let few = parts-least run (rules_in R) (suc b) c.below in
    let last = c.used b (omega arith) in
    let many = parts-over run (rules_in R) last.0 last.1 in
    omega (arith, many, last.2)

pub choice_parts : {R : Rules} {run : List ℕ} {b : ℕ} → Choice R run b → parts run (rules_in R) ≡ b
choice_parts {R} {run} {b} c = all_opened R run b c
