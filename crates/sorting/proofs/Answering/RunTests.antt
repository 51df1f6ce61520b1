-- The tests of a run of partition numbers that someone brings, as the code of `run_fault.rt` makes them (`specs/Brought.antt`).
--     all_told                           what `all` answers of a list
--     fit_all                            16: each number is below n
--     marked_all, parts_few, gap_told    17: the numbers below b have a mark each
--     apart_same, clash-all                         18: two rules of one partition
-- Assumes nothing.
use Prim.Native.Nat.{ℕ, ◌≤◌, ◌<◌}
use mathlib.Core.Bool.{Bool, true, false, not}
use mathlib.Core.List.{List}
use mathlib.Core.Logic.{◌↔◌}
use mathlib.Core.Path.{◌≡◌, refl, sym, ap, ◌∙◌}
use native.Mathlib.Omega.{arith}
use lib.ListN.{length, get_or, take}
use lib.Seq.{get_or-take}
use Rattle.std.specs.Prelude.{IsTrue}
use borrow.Author.Tests.{lt-ltb, ltb-true, eq-eqb}
use Rattle.ranges.specs.Numbers.{all}
use Rattle.ranges.proofs.Numbers.{all_yes, all_at, all_same}
use Rattle.lists.specs.Limits.{most_rules}
use Rattle.lists.specs.Rules.{Rules}
use Rattle.ordering.specs.Order.{clash}
use Rattle.sorting.specs.FirstFit.{part_of, parts, free}
use Rattle.sorting.specs.Asked.{Numbered, Seen, Fitting}
use Rattle.sorting.specs.Brought.{numbers_fit, is_used, no_gap, is_apart, no_clash}
use Rattle.sorting.proofs.Partitions.Parts.{parts-least}

-- ---- what the library answers of a list: r is true exactly where each place has what the test P asks
all_told : {P : ℕ → Bool} {A : ℕ → Type 0} {n : ℕ} → ((k : ℕ) → k < n → (P k ≡ true) ↔ A k) → {r : Bool} → (IsTrue r ↔ ((k : ℕ) → k < n → A k)) → r ≡ all n P
all_told {P} {A} {n} test {r} told = go r (all n P) told refl
  where
    go : (t s : Bool) → (IsTrue t ↔ ((k : ℕ) → k < n → A k)) → all n P ≡ s → t ≡ all n P
    go true s by e = sym (all_yes P n (λ k lt. (test k lt).1 (by.0 refl k lt)))
    go false true by e = sym (e ∙ sym (by.1 (λ k lt. (test k lt).0 (all_at P n e k lt))))
    go false false by e = sym e

-- ---- 16, of a run of n numbers
pub fit_all : (run : List ℕ) {r : Bool} → (IsTrue r ↔ ((k : ℕ) → k < length run → get_or run k 0 < length run)) → r ≡ numbers_fit (length run) run
unfolding numbers_fit
fit_all run = all_told (λ k lt. (ltb-true (part_of run k) (length run), lt-ltb (part_of run k) (length run)))

-- ---- 17
pub marked_all : (marks : List Bool) (b : ℕ) {r : Bool} → (IsTrue r ↔ ((k : ℕ) → k < b → get_or (take b marks) k false ≡ true))
    → r ≡ all b (λ k. get_or marks k false)
marked_all marks b = all_told (λ k lt. (λ e. get_or-take b marks k false lt ∙ e, λ e. sym (get_or-take b marks k false lt) ∙ e))

module _ {run : List ℕ} (h : Fitting run) {b : ℕ} (is_b : b ≡ parts run (length run)) where
  pub parts_few : b ≤ most_rules
  parts_few = omega (arith, is_b, parts-least run (length run) most_rules h.below)

  pub gap_told : {marks : List Bool} → Seen (part_of run) (length run) marks → {r : Bool} → r ≡ all b (λ k. get_or marks k false)
      → r ≡ no_gap (length run) run
  unfolding no_gap
  gap_told {marks} seen is_r =
      is_r
      ∙ all_same (λ k. get_or marks k false) (is_used (length run) run) b (λ k lt. seen.marked k (omega (arith, parts_few)))
      ∙ ap (λ m. all m (is_used (length run) run)) is_b

-- ---- 18
module _ (R : Rules) (run : List ℕ) (i j : ℕ) where
  pub apart_same : get_or run j 0 ≡ get_or run i 0 → {r : Bool} → r ≡ clash R j i → not r ≡ is_apart R run i j
  apart_same e is_r = rw (eq-eqb (part_of run j) (part_of run i) e, is_r)

pub clash-all : {R : Rules} {run : List ℕ} → Numbered R run → {r : Bool} → r ≡ all (length run) (λ i. free R run i (part_of run i)) → r ≡ no_clash R run
unfolding no_clash
clash-all {R} {run} h is_r = is_r ∙ ap (λ n. all n (λ i. free R run i (part_of run i))) h.one_each
