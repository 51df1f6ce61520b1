-- The smallest rule of each partition of a choice (`specs/Table.antt`, `least_of`).
--     first_used, first_unused       the first rule with a partition's number; none has a number past them
--     least_part, least_past         the number that the table has for a partition, and past the last
--     least-rule, least_none_less    it is a rule of the partition, and none of its rules is smaller
-- Assumes nothing.
use Prim.Native.Nat.{ℕ, ◌≤◌, ◌<◌}
use mathlib.Core.List.{List}
use mathlib.Core.Path.{◌≡◌}
use native.Mathlib.Omega.{arith}
use lib.Dec.{eqb}
use borrow.Author.Tests.{lt-ltb, le-ltb, eq-eqb, ne_eqb, eqb-true}
use Rattle.ranges.specs.Numbers.{least}
use Rattle.ranges.proofs.Numbers.{least-none, least_hit, least_upto}
use Rattle.lists.specs.Rules.{Rules, rules_in}
use Rattle.sorting.specs.FirstFit.{part_of, parts, Choice}
use Rattle.sorting.specs.Table.{least_of}
use Rattle.sorting.proofs.Partitions.Parts.{choice_parts}

module _ {R : Rules} {run : List ℕ} {b : ℕ} (choice : Choice R run b) (q : ℕ) where
  -- the first rule with this number
  abbrev first : ℕ
  first = least (rules_in R) (λ i. eqb (part_of run i) q)

  pub first_used : q < b → first < rules_in R
  first_used few =
      let at = choice.used q few in
      omega (arith, at.1, least_upto (λ i. eqb (part_of run i) q) (rules_in R) at.0 (eq-eqb (part_of run at.0) q at.2))

  pub first_unused : b ≤ q → first ≡ rules_in R
  first_unused past =
      least-none (λ i. eqb (part_of run i) q) (rules_in R) (λ i lt. ne_eqb (part_of run i) q (λ e. omega (arith, choice.below i lt, e)))

  pub least_part : q < b → least_of R run q ≡ first
  unfolding least_of
  least_part few =
      let under : q < parts run (rules_in R) = omega (arith, choice_parts choice) in
      rw (lt-ltb q (parts run (rules_in R)) under)

  pub least_past : b ≤ q → least_of R run q ≡ 0
  unfolding least_of
  least_past past =
      let over : parts run (rules_in R) ≤ q = omega (arith, choice_parts choice) in
      rw (le-ltb q (parts run (rules_in R)) over)

  module _ (few : q < b) where
    pub least-rule : (least_of R run q < rules_in R) × (part_of run (least_of R run q) ≡ q)
    least-rule =
        let hit = least_hit (λ i. eqb (part_of run i) q) (rules_in R) (first_used few) in
        rw (least_part few) (first_used few, eqb-true (part_of run first) q hit)

    pub least_none_less : (i : ℕ) → part_of run i ≡ q → least_of R run q ≤ i
    least_none_less i is = omega (arith, least_part few, least_upto (λ i. eqb (part_of run i) q) (rules_in R) i (eq-eqb (part_of run i) q is))
