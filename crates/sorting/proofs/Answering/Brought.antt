-- What 16, 17 and 18 say of a run of partition numbers that someone brings (`specs/Brought.antt`): a run that meets none of them is a
-- choice of partitions, and only such a run is.
--     fit_iff, misfit_iff          16: each number is below n; one is not
--     used_iff, gapless_iff, gap_iff      17: each number up to the largest is used; one is not
--     apart_iff, clash_iff         18: no two rules of one partition clash; two do
--     tests_choice; choice_fit, choice_gapless, choice_apart      the three tests and `Choice`
-- Assumes nothing.
use Prim.Native.Nat.{ℕ, ◌≤◌, ◌<◌}
use mathlib.Core.Bool.{Bool, true, false, not}
use mathlib.Core.List.{List}
use mathlib.Core.Logic.{◌↔◌}
use mathlib.Core.Path.{◌≡◌, refl, ap}
use native.Mathlib.Omega.{arith}
use lib.Dec.{ltb, eqb}
use borrow.Author.Tests.{lt-ltb, le-ltb, eq-eqb, ne_eqb, ltb-true, ltb-false, eqb-true, eqb-false, not-true, not-false}
use Rattle.ranges.specs.Numbers.{all}
use Rattle.ranges.proofs.Numbers.{true-not-false, all_yes, all_at, all_no, all_some}
use Rattle.lists.specs.Rules.{Rules, rules_in}
use Rattle.ordering.specs.Order.{clash}
use Rattle.sorting.specs.FirstFit.{part_of, parts, free, Choice}
use Rattle.sorting.specs.Brought.{numbers_fit, is_used, no_gap, no_clash}
use Rattle.sorting.proofs.Partitions.Parts.{parts-over}
use Rattle.sorting.proofs.Partitions.FirstFits.{free_yes, free-clear, free_full}
use Rattle.sorting.proofs.Sorted.Starts.{choice_few}

module _ (n : ℕ) (run : List ℕ) where
  -- ---- 16
  abbrev fits : ℕ → Bool
  fits i = ltb (part_of run i) n

  pub fit_iff : (numbers_fit n run ≡ true) ↔ ((i : ℕ) → i < n → part_of run i < n)
  unfolding numbers_fit
  fit_iff = (λ e i lt. ltb-true (part_of run i) n (all_at fits n e i lt), λ h. all_yes fits n (λ i lt. lt-ltb (part_of run i) n (h i lt)))

  pub misfit_iff : (numbers_fit n run ≡ false) ↔ ((i : ℕ) × (i < n) × (n ≤ part_of run i))
  unfolding numbers_fit
  misfit_iff =
      (λ e. let at = all_some fits n e in (at.0, at.1, ltb-false (part_of run at.0) n at.2), λ h. all_no fits n h.0 h.1 (le-ltb (part_of run h.0) n h.2))

  -- ---- 17
  module _ (q : ℕ) where
    abbrev unlike : ℕ → Bool
    unlike i = not (eqb (part_of run i) q)

    pub used_iff : (is_used n run q ≡ true) ↔ ((i : ℕ) × (i < n) × (part_of run i ≡ q))
    used_iff = (to, λ h. ap not (all_no unlike n h.0 h.1 (ap not (eq-eqb (part_of run h.0) q h.2))))
      where
        to : is_used n run q ≡ true → (i : ℕ) × (i < n) × (part_of run i ≡ q)
        to e =
            let at = all_some unlike n (not-true (all n unlike) e) in
            (at.0, at.1, eqb-true (part_of run at.0) q (not-false (eqb (part_of run at.0) q) at.2))

    unused_iff : (is_used n run q ≡ false) ↔ ((i : ℕ) → i < n → part_of run i ≡ q → ⊥)
    unused_iff = (to, λ h. ap not (all_yes unlike n (λ i lt. ap not (ne_eqb (part_of run i) q (h i lt)))))
      where
        to : is_used n run q ≡ false → (i : ℕ) → i < n → part_of run i ≡ q → ⊥
        to e i lt = eqb-false (part_of run i) q (not-true (eqb (part_of run i) q) (all_at unlike n (not-false (all n unlike) e) i lt))

  pub gapless_iff : (no_gap n run ≡ true) ↔ ((q : ℕ) → q < parts run n → (i : ℕ) × (i < n) × (part_of run i ≡ q))
  unfolding no_gap
  gapless_iff =
      (λ e q lt. (used_iff q).0 (all_at (is_used n run) (parts run n) e q lt), λ h. all_yes (is_used n run) (parts run n) (λ q lt. (used_iff q).1 (h q lt)))

  pub gap_iff : (no_gap n run ≡ false) ↔ ((q : ℕ) × (q < parts run n) × ((i : ℕ) → i < n → part_of run i ≡ q → ⊥))
  unfolding no_gap
  gap_iff =
      (λ e. let at = all_some (is_used n run) (parts run n) e in (at.0, at.1, (unused_iff at.0).0 at.2), λ h. all_no (is_used n run) (parts run n) h.0 h.1 ((unused_iff h.0).1 h.2))

module _ (R : Rules) (run : List ℕ) where
  -- ---- 18
  abbrev clear : ℕ → Bool
  clear j = free R run j (part_of run j)

  pub apart_iff : (no_clash R run ≡ true) ↔ ((i j : ℕ) → i < j → j < rules_in R → part_of run i ≡ part_of run j → clash R i j ≡ false)
  unfolding no_clash
  apart_iff = (
    λ e i j lt is-j same. free-clear R run j (part_of run j) (all_at clear (rules_in R) e j is-j) i lt same,
    λ h. all_yes clear (rules_in R) (λ j is-j. free_yes R run j (part_of run j) (λ i lt same. h i j lt is-j same)),
  )

  -- rules i and j, of one partition, clash
  pub record Clashing (i j : ℕ) : Type 0 where
    pub first : i < j
    pub second : j < rules_in R
    pub same : part_of run i ≡ part_of run j
    pub meet : clash R i j ≡ true

  pub clash_iff : (no_clash R run ≡ false) ↔ ((i : ℕ) × (j : ℕ) × Clashing i j)
  unfolding no_clash
  clash_iff = (
    λ e.
        let at = all_some clear (rules_in R) e in
        let with = free_full R run at.0 (part_of run at.0) at.2 in
        (with.0, at.0, record { first = with.1; second = at.1; same = with.2; meet = with.3 }),
    λ h.
        let two = h.2 in
        all_no clear (rules_in R) h.1 two.second (full h.0 h.1 two (free R run h.1 (part_of run h.1)) refl),
  )
    where
      full : (i j : ℕ) → Clashing i j → (t : Bool) → free R run j (part_of run j) ≡ t → t ≡ false
      full i j two true e = absurd (true-not-false two.meet (free-clear R run j (part_of run j) e i two.first two.same))
      full i j two false e = refl

  -- ---- the three
  pub tests_choice : no_gap (rules_in R) run ≡ true → no_clash R run ≡ true → Choice R run (parts run (rules_in R))
  tests_choice gapless apart =
      record { below = parts-over run (rules_in R); used = (gapless_iff (rules_in R) run).0 gapless; apart = apart_iff.0 apart }

  module _ (c : Choice R run (parts run (rules_in R))) where
    pub choice_fit : numbers_fit (rules_in R) run ≡ true
    choice_fit = (fit_iff (rules_in R) run).1 (λ i lt. omega (arith, c.below i lt, choice_few c))

    pub choice_gapless : no_gap (rules_in R) run ≡ true
    choice_gapless = (gapless_iff (rules_in R) run).1 c.used

    pub choice_apart : no_clash R run ≡ true
    choice_apart = apart_iff.1 c.apart
