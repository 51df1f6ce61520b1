-- Laws of first fit (`specs/FirstFit.antt`): each rule gets the lowest-numbered partition in which it clashes with no earlier
-- member, and first fit is a choice without clashes and gaps.
-- A partition that no earlier rule uses is free, so a rule's number is never past the first unused one: there are no gaps, and
-- never more partitions than rules.
--     free_yes, free-clear, free_full                    a partition is free for a rule: no earlier member clashes
--     fit_is, fit_free, fit-under, fit-least             the lowest-numbered partition that is free
--     first_fit-length, first_fit_more, first_fit_at     first fit, rule after rule
--     first_fit_same, first_fit_is                       of more rules: the numbers of the first ones stay, and are the fits
--     Fitted, first_fit_fitted                           a rule has the lowest partition in which it clashes with no earlier member
--     first_fit_low, first_fit_few                       no rule has a number above its own; at most n partitions
--     first_fit_choice                                   a choice without clashes and gaps
-- Assumes nothing.
use Prim.Native.Nat.{ℕ, zero, suc, ◌+◌, ◌≤◌, ◌<◌}
use mathlib.Core.Bool.{Bool, true, false, not}
use mathlib.Core.List.{List, [], ◌∷◌, ◌++◌}
use mathlib.Core.Path.{◌≡◌, refl, sym, ap, ◌∙◌}
use mathlib.Core.Logic.{⊎_elim}
use native.Mathlib.Omega.{arith}
use native.Mathlib.Nat.{eq-or-lt_of_le, le_of_suc-le-suc}
use native.Mathlib.Numerals.{add-one}
use lib.ListN.{length, get_or, length-append, get_or-append}
use lib.Seq.{get_or_at}
use lib.Dec.{ltb, eqb}
use borrow.Author.Tests.{eq-eqb, eqb-true, ltb-true, ltb-false, not-true, not-false}
use Rattle.ranges.specs.Numbers.{◌and◌}
use Rattle.ranges.proofs.Numbers.{true-not-false, and_left, and_right, all_yes, all_at, all_some, all_same, least_is, least_hit, least_under, least_same}
use Rattle.lists.specs.Rules.{Rules, rules_in}
use Rattle.ordering.specs.Order.{clash}
use Rattle.sorting.specs.FirstFit.{part_of, free, fit_of, first_fit, parts, Choice}
use Rattle.sorting.proofs.Partitions.Parts.{parts-over}

-- ---- a partition is free for a rule
-- a member that does not clash, and a rule that is no member, leave it free
clear_yes : (x q : ℕ) (t : Bool) → (x ≡ q → t ≡ false) → not (eqb x q and t) ≡ true
clear_yes x q t h = go (eqb x q) refl
  where
    go : (s : Bool) → eqb x q ≡ s → not (s and t) ≡ true
    go true e = ap not (h (eqb-true x q e))
    go false e = refl

module _ (R : Rules) (run : List ℕ) (i q : ℕ) where
  pub free_yes : ((j : ℕ) → j < i → part_of run j ≡ q → clash R j i ≡ false) → free R run i q ≡ true
  free_yes h = all_yes (λ j. not (eqb (part_of run j) q and clash R j i)) i (λ j l. clear_yes (part_of run j) q (clash R j i) (h j l))

  pub free-clear : free R run i q ≡ true → (j : ℕ) → j < i → part_of run j ≡ q → clash R j i ≡ false
  free-clear e j lt is =
      let here = not-true (eqb (part_of run j) q and clash R j i) (all_at (λ j. not (eqb (part_of run j) q and clash R j i)) i e j lt) in
      rw (eq-eqb (part_of run j) q is) at here

  -- some earlier member clashes
  pub free_full : free R run i q ≡ false → (j : ℕ) × (j < i) × (part_of run j ≡ q) × (clash R j i ≡ true)
  free_full e =
      let at = all_some (λ j. not (eqb (part_of run j) q and clash R j i)) i e in
      let both = not-false (eqb (part_of run at.0) q and clash R at.0 i) at.2 in (
        at.0,
        at.1,
        eqb-true (part_of run at.0) q (and_left (eqb (part_of run at.0) q) (clash R at.0 i) both),
        and_right (eqb (part_of run at.0) q) (clash R at.0 i) both,
      )

-- runs that agree on the rules before i leave the same partitions free
free_same : (R : Rules) (run run' : List ℕ) (i q : ℕ) → ((j : ℕ) → j < i → part_of run j ≡ part_of run' j) → free R run i q ≡ free R run' i q
free_same R run run' i q h =
    all_same (λ j. not (eqb (part_of run j) q and clash R j i)) (λ j. not (eqb (part_of run' j) q and clash R j i)) i
    (λ j l. ap (λ x. not (eqb x q and clash R j i)) (h j l))

-- ---- the lowest-numbered partition that is free
module _ (R : Rules) (run : List ℕ) (i : ℕ) where
  pub fit_is : (q : ℕ) → q ≤ i → free R run i q ≡ true → ((r : ℕ) → r < q → free R run i r ≡ false) → fit_of R run i ≡ q
  unfolding fit_of
  fit_is q le is_free under = least_is (free R run i) (suc i) q (omega arith) is_free under

  pub fit-under : (q : ℕ) → q < fit_of R run i → free R run i q ≡ false
  unfolding fit_of
  fit-under q lt = least_under (free R run i) (suc i) q lt

  pub fit-least : (q : ℕ) → free R run i q ≡ true → fit_of R run i ≤ q
  fit-least q is_free = go (ltb q (fit_of R run i)) refl
    where
      go : (t : Bool) → ltb q (fit_of R run i) ≡ t → fit_of R run i ≤ q
      go true e = absurd (true-not-false is_free (fit-under q (ltb-true q (fit_of R run i) e)))
      go false e = ltb-false q (fit_of R run i) e

  -- one of 0 to i is free, so the fit is
  pub fit_free : (q : ℕ) → q ≤ i → free R run i q ≡ true → free R run i (fit_of R run i) ≡ true
  unfolding fit_of
  fit_free q le is_free = least_hit (free R run i) (suc i) (omega (arith, fit-least q is_free))

fit_same : (R : Rules) (run run' : List ℕ) (i : ℕ) → ((j : ℕ) → j < i → part_of run j ≡ part_of run' j) → fit_of R run i ≡ fit_of R run' i
unfolding fit_of
fit_same R run run' i h = least_same (free R run i) (free R run' i) (suc i) (λ q l. free_same R run run' i q h)

-- ---- first fit, rule after rule
module _ (R : Rules) where
  pub first_fit_more : (k : ℕ) → first_fit R (k + 1) ≡ first_fit R k ++ (fit_of R (first_fit R k) k ∷ [])
  unfolding first_fit
  first_fit_more k = rw add-one

  pub first_fit-length : (k : ℕ) → length (first_fit R k) ≡ k
  unfolding first_fit
  first_fit-length zero = refl
  first_fit-length (suc k) = rw (length-append, first_fit-length k, add-one)

  -- the number of each rule
  pub first_fit_at : (k i : ℕ) → i < k → part_of (first_fit R k) i ≡ fit_of R (first_fit R i) i
  unfolding first_fit
  first_fit_at zero i lt = absurd (omega arith)
  first_fit_at (suc k) i lt =
      ⊎_elim here (λ l. get_or-append (first_fit R k) (fit_of R (first_fit R k) k ∷ []) 0 i (inside l) ∙ first_fit_at k i l)
      (eq-or-lt_of_le (le_of_suc-le-suc lt))
    where
      here : i ≡ k → get_or (first_fit R k ++ (fit_of R (first_fit R k) k ∷ [])) i 0 ≡ fit_of R (first_fit R i) i
      here e = get_or_at (first_fit R k) (fit_of R (first_fit R k) k) [] 0 i (first_fit-length k ∙ sym e) ∙ ap (λ m. fit_of R (first_fit R m) m) (sym e)

      inside : i < k → i < length (first_fit R k)
      inside l = omega (arith, first_fit-length k)

  -- of more rules the numbers of the first ones stay
  pub first_fit_same : (k m i : ℕ) → i < k → k ≤ m → part_of (first_fit R m) i ≡ part_of (first_fit R k) i
  first_fit_same k m i lt le = first_fit_at m i (omega arith) ∙ sym (first_fit_at k i lt)

  -- so a rule's number is the fit in the whole run, too
  pub first_fit_is : (n i : ℕ) → i < n → part_of (first_fit R n) i ≡ fit_of R (first_fit R n) i
  first_fit_is n i lt =
      first_fit_at n i lt ∙ fit_same R (first_fit R i) (first_fit R n) i (λ j l. sym (first_fit_same i n j l (omega arith)))

-- ---- a run in which each rule has its fit
-- rule i has the lowest-numbered partition in which it clashes with no earlier member
pub record Fitted (R : Rules) (run : List ℕ) (i : ℕ) : Type 0 where
  pub clear : (j : ℕ) → j < i → part_of run j ≡ part_of run i → clash R j i ≡ false
  pub full : (q : ℕ) → q < part_of run i → (j : ℕ) × (j < i) × (part_of run j ≡ q) × (clash R j i ≡ true)

module _ (R : Rules) (run : List ℕ) (n : ℕ) (each : (i : ℕ) → i < n → part_of run i ≡ fit_of R run i) where
  -- the first partition that no earlier rule opened is free
  new_free : (k : ℕ) → free R run k (parts run k) ≡ true
  new_free k = free_yes R run k (parts run k) (λ j l is. absurd (omega (arith, parts-over run k j l)))

  -- so a rule opens at most one more
  one_more : (k : ℕ) → k < n → part_of run k ≤ parts run k
  one_more k lt = omega (arith, each k lt, fit-least R run k (parts run k) (new_free k))

  few : (k : ℕ) → k ≤ n → parts run k ≤ k
  unfolding parts
  few zero le = omega arith
  few (suc k) le =
      let under : parts run k ≤ k = few k (omega arith) in
      let here : part_of run k ≤ parts run k = one_more k le in
      omega arith

  fitted : (i : ℕ) → i < n → Fitted R run i
  fitted i lt =
      let is_free = fit_free R run i (parts run i) (few i (omega arith)) (new_free i) in
      record {
        clear = λ j l same. free-clear R run i (fit_of R run i) is_free j l (same ∙ each i lt);
        full = λ q l. free_full R run i q (fit-under R run i q (omega (arith, each i lt)));
      }

  -- no gaps: each partition that the first k rules open is used by one of them
  no_gaps : (k : ℕ) → k ≤ n → (q : ℕ) → q < parts run k → (i : ℕ) × (i < k) × (part_of run i ≡ q)
  unfolding parts
  no_gaps zero le q lt = absurd (omega arith)
  no_gaps (suc k) le q lt = go (ltb q (parts run k)) refl (no_gaps k (omega arith) q)
    where
      go : (t : Bool) → ltb q (parts run k) ≡ t → (q < parts run k → (i : ℕ) × (i < k) × (part_of run i ≡ q)) → (i : ℕ) × (i < suc k) × (part_of run i ≡ q)
      go true e under =
          let at = under (ltb-true q (parts run k) e) in
          (at.0, omega (arith, at.1), at.2)
      go false e under =
          let over = ltb-false q (parts run k) e in
          let here = one_more k le in
          (k, omega arith, omega arith)

-- ---- first fit
module _ (R : Rules) where
  pub first_fit_fitted : (n i : ℕ) → i < n → Fitted R (first_fit R n) i
  first_fit_fitted n = fitted R (first_fit R n) n (first_fit_is R n)

  -- no rule has a number above its own
  pub first_fit_low : (n i : ℕ) → i < n → part_of (first_fit R n) i ≤ i
  first_fit_low n i lt =
      let each = first_fit_is R n in
      omega (arith, one_more R (first_fit R n) n each i lt, few R (first_fit R n) n each i (omega arith))

  pub first_fit_few : (n : ℕ) → parts (first_fit R n) n ≤ n
  first_fit_few n = few R (first_fit R n) n (first_fit_is R n) n (omega arith)

  pub first_fit_choice : Choice R (first_fit R (rules_in R)) (parts (first_fit R (rules_in R)) (rules_in R))
  first_fit_choice =
      let n = rules_in R in
      let run = first_fit R n in
      record {
        below = λ i is_i. parts-over run n i is_i;
        used = λ q lt. no_gaps R run n (first_fit_is R n) n (omega arith) q lt;
        apart = λ i j lt is-j same. (first_fit_fitted n j is-j).clear i lt same;
      }
