-- Laws of the refusals of a choice and of a laying out (`specs/Brought.antt`): which of them a list, a run and a table meet.
--     long_none, long_iff                            15 alone
--     Choosable, choosable_iff, choose_long_iff      what meets none of 1, 2, 3, 4, 15; 15
--     run_none_iff                                   a run that meets none of 15, 16, 17, 18 has one number for each rule and is a choice
--     Layable, layable_iff, lay_first                what meets none of 1, 2, 3, 4, 5, 15, 16, 17, 18; what meets one of 1 to 5
--     Fits, lay_long_iff, lay_number_iff, lay_empty_iff, lay_clash_iff      15, 16, 17 and 18 of a laying out
--     by-numbered, by_few, by_fitting, by_number, by_gap, by-clash, by-fine      as the code works a run's refusal out
-- Assumes nothing.
use Prim.Native.Nat.{ℕ, ◌≤◌, ◌<◌}
use mathlib.Core.Bool.{Bool, true, false, not}
use mathlib.Core.List.{List}
use mathlib.Core.Logic.{◌↔◌}
use mathlib.Core.Path.{◌≡◌, refl, sym, ap, ◌∙◌}
use native.Mathlib.Omega.{arith}
use lib.ListN.{length}
use lib.Dec.{eqb}
use borrow.Author.Tests.{eq-eqb, ne_eqb, eqb-true, eqb-false, not-true, not-false}
use Rattle.ranges.specs.Numbers.{pick}
use Rattle.std.specs.Prelude.{Err}
use Rattle.ranges.specs.Refusals.{Refusal, Fault, none, refusing, refused, or_else, number_of, number_in}
use Rattle.ranges.specs.declared.refusal.Cause.TheVariants.{BadRunLength, BadPartitionNumber, EmptyPartition, ClashInPartition}
use Rattle.ranges.proofs.InARow.{not-none, else_none, else_iff, test_none, test_iff}
use Rattle.lists.specs.Limits.{most_rules}
use Rattle.lists.specs.Rules.{Rules, rules_in}
use Rattle.lists.specs.Faults.{list_fault}
use Rattle.sorting.specs.FirstFit.{part_of, parts, Choice}
use Rattle.sorting.specs.Asked.{Numbered, Laying, Fitting}
use Rattle.sorting.specs.Build.{Buildable, build_fault}
use Rattle.sorting.specs.Brought.{length_fault, numbers_fit, no_gap, no_clash, run_fault, choose_fault, lay_fault}
use Rattle.lists.proofs.Sound.{list_shaped}
use Rattle.sorting.proofs.Answering.BuildFaults.{list_few, build_few, buildable, fine-none}
use Rattle.sorting.proofs.Answering.Brought.{fit_iff, misfit_iff, gapless_iff, gap_iff, Clashing, clash_iff, tests_choice, choice_fit, choice_gapless, choice_apart}

-- ---- 15 alone
module _ (R : Rules) (run : List ℕ) where
  abbrev long : Bool
  long = eqb (length run) (rules_in R)

  long_none : (length_fault R run ≡ none) ↔ (length run ≡ rules_in R)
  unfolding length_fault
  long_none =
      let by = test_none long (refusing BadRunLength 0 0) in
      (λ e. eqb-true (length run) (rules_in R) (by.0 e), λ one_each. by.1 (eq-eqb (length run) (rules_in R) one_each))

  long_iff : (length_fault R run ≡ refused BadRunLength) ↔ (length run ≡ rules_in R → ⊥)
  unfolding length_fault
  long_iff =
      let by = test_iff long (refusing BadRunLength 0 0) in
      (λ e. eqb-false (length run) (rules_in R) (by.0 e), λ other. by.1 (ne_eqb (length run) (rules_in R) other))

  -- ---- a choice
  -- a list that meets none of 1 to 4, and a run with a number for each of its rules
  pub record Choosable : Type 0 where
    pub no_fault : list_fault R ≡ none
    pub one_each : length run ≡ rules_in R

  pub choosable_iff : (choose_fault R run ≡ none) ↔ Choosable
  unfolding choose_fault
  choosable_iff =
      let both = else_none (list_fault R) (length_fault R run) in (
        λ z. record { no_fault = (both.0 z).0; one_each = long_none.0 (both.0 z).1 },
        λ h. both.1 (h.no_fault, long_none.1 h.one_each),
      )

  pub choose_long_iff : (choose_fault R run ≡ refused BadRunLength) ↔ ((list_fault R ≡ none) × (length run ≡ rules_in R → ⊥))
  unfolding choose_fault
  choose_long_iff =
      let by = else_iff (list_fault R) (length_fault R run) (refusing BadRunLength 0 0) (λ e. omega (arith, ap number_in e, list_few R)) in
      (λ e. ((by.0 e).0, long_iff.0 (by.0 e).1), λ h. by.1 (h.0, long_iff.1 h.1))

  pub choosable_run : Choosable → Numbered R run
  choosable_run h = record { shape_stands = list_shaped R h.no_fault; one_each = h.one_each }

-- ---- 15, 16, 17, 18 in a row, from what the tests said
abbrev row : Bool → Bool → Bool → Bool → Fault
row a f g c =
    or_else (pick a none (refused BadRunLength))
    (or_else (pick f none (refused BadPartitionNumber)) (or_else (pick g none (refused EmptyPartition)) (pick c none (refused ClashInPartition))))

row-none : (a f g c : Bool) → row a f g c ≡ none → (a ≡ true) × (f ≡ true) × (g ≡ true) × (c ≡ true)
row-none true true true true e = (refl, refl, refl, refl)
row-none false f g c e = absurd (not-none e)
row-none true false g c e = absurd (not-none e)
row-none true true false c e = absurd (not-none e)
row-none true true true false e = absurd (not-none e)

row_15 : (a f g c : Bool) → number_in (row a f g c) ≡ 15 → a ≡ false
row_15 false f g c e = refl
row_15 true false g c e = absurd (omega arith)
row_15 true true false c e = absurd (omega arith)
row_15 true true true false e = absurd (omega arith)
row_15 true true true true e = absurd (omega arith)

row_16 : (a f g c : Bool) → number_in (row a f g c) ≡ 16 → (a ≡ true) × (f ≡ false)
row_16 true false g c e = (refl, refl)
row_16 false f g c e = absurd (omega arith)
row_16 true true false c e = absurd (omega arith)
row_16 true true true false e = absurd (omega arith)
row_16 true true true true e = absurd (omega arith)

row_17 : (a f g c : Bool) → number_in (row a f g c) ≡ 17 → (a ≡ true) × (f ≡ true) × (g ≡ false)
row_17 true true false c e = (refl, refl, refl)
row_17 false f g c e = absurd (omega arith)
row_17 true false g c e = absurd (omega arith)
row_17 true true true false e = absurd (omega arith)
row_17 true true true true e = absurd (omega arith)

row_18 : (a f g c : Bool) → number_in (row a f g c) ≡ 18 → (a ≡ true) × (f ≡ true) × (g ≡ true) × (c ≡ false)
row_18 true true true false e = (refl, refl, refl, refl)
row_18 false f g c e = absurd (omega arith)
row_18 true false g c e = absurd (omega arith)
row_18 true true false c e = absurd (omega arith)
row_18 true true true true e = absurd (omega arith)

module _ (R : Rules) (run : List ℕ) where
  abbrev fit : Bool
  fit = numbers_fit (rules_in R) run

  abbrev gapless : Bool
  gapless = no_gap (rules_in R) run

  abbrev apart : Bool
  apart = no_clash R run

  run_row : run_fault R run ≡ row (long R run) fit gapless apart
  unfolding run_fault length_fault
  run_row = refl

  -- ---- none of them
  pub run_none_iff : (run_fault R run ≡ none) ↔ ((length run ≡ rules_in R) × Choice R run (parts run (rules_in R)))
  run_none_iff = (to, fro)
    where
      to : run_fault R run ≡ none → (length run ≡ rules_in R) × Choice R run (parts run (rules_in R))
      to z =
          let all-stand = row-none (long R run) fit gapless apart (sym run_row ∙ z) in
          (eqb-true (length run) (rules_in R) all-stand.0, tests_choice R run all-stand.2 all-stand.3)

      fro : (length run ≡ rules_in R) × Choice R run (parts run (rules_in R)) → run_fault R run ≡ none
      fro h = rw (run_row, eq-eqb (length run) (rules_in R) h.0, choice_fit R run h.1, choice_gapless R run h.1, choice_apart R run h.1)

  -- ---- each of them
  numbered : {z : Fault} → run_fault R run ≡ z → number_in (row (long R run) fit gapless apart) ≡ number_in z
  numbered e = ap number_in (sym run_row ∙ e)

  run_15 : (run_fault R run ≡ refused BadRunLength) ↔ (length run ≡ rules_in R → ⊥)
  run_15 = (
    λ e. eqb-false (length run) (rules_in R) (row_15 (long R run) fit gapless apart (numbered e)),
    λ other. rw (run_row, ne_eqb (length run) (rules_in R) other),
  )

  run_16 : (run_fault R run ≡ refused BadPartitionNumber) ↔ ((length run ≡ rules_in R) × (fit ≡ false))
  run_16 = (
    λ e.
        let at = row_16 (long R run) fit gapless apart (numbered e) in
        (eqb-true (length run) (rules_in R) at.0, at.1),
    λ h. rw (run_row, eq-eqb (length run) (rules_in R) h.0, h.1),
  )

  run_17 : (run_fault R run ≡ refused EmptyPartition) ↔ ((length run ≡ rules_in R) × (fit ≡ true) × (gapless ≡ false))
  run_17 = (
    λ e.
        let at = row_17 (long R run) fit gapless apart (numbered e) in
        (eqb-true (length run) (rules_in R) at.0, at.1, at.2),
    λ h. rw (run_row, eq-eqb (length run) (rules_in R) h.0, h.1, h.2),
  )

  run_18 : (run_fault R run ≡ refused ClashInPartition) ↔ ((length run ≡ rules_in R) × (fit ≡ true) × (gapless ≡ true) × (apart ≡ false))
  run_18 = (
    λ e.
        let at = row_18 (long R run) fit gapless apart (numbered e) in
        (eqb-true (length run) (rules_in R) at.0, at.1, at.2, at.3),
    λ h. rw (run_row, eq-eqb (length run) (rules_in R) h.0, h.1, h.2, h.3),
  )

-- ---- a laying out
module _ (R : Rules) (run T : List ℕ) where
  -- a list and a table that meet none of 1 to 5, and a choice of partitions with a number for each rule
  pub record Layable : Type 0 where
    pub fine : Buildable R T
    pub one_each : length run ≡ rules_in R
    pub choice : Choice R run (parts run (rules_in R))

  pub layable_iff : (lay_fault R run T ≡ none) ↔ Layable
  unfolding lay_fault
  layable_iff =
      let both = else_none (build_fault R T) (run_fault R run) in (
        λ z.
            let brought = (run_none_iff R run).0 (both.0 z).1 in
            record { fine = buildable R T (both.0 z).0; one_each = brought.0; choice = brought.1 },
        λ h. both.1 (fine-none R T h.fine, (run_none_iff R run).1 (h.one_each, h.choice)),
      )

  -- a refusal by 1 to 5 is the whole answer
  pub lay_first : {x : Refusal} → build_fault R T ≡ Err x → lay_fault R run T ≡ Err x
  unfolding lay_fault
  lay_first e = rw e

  -- a refusal above 5 is the run's
  of_run : (z : Refusal) → 5 < number_of z.cause → (lay_fault R run T ≡ Err z) ↔ (Buildable R T × (run_fault R run ≡ Err z))
  unfolding lay_fault
  of_run z over =
      let by = else_iff (build_fault R T) (run_fault R run) z (λ e. omega (arith, ap number_in e, build_few R T)) in (
        λ e. (buildable R T (by.0 e).0, (by.0 e).1),
        λ h. by.1 (fine-none R T h.0, h.1),
      )

  -- 15: the run does not have one number for each rule
  pub lay_long_iff : (lay_fault R run T ≡ refused BadRunLength) ↔ (Buildable R T × (length run ≡ rules_in R → ⊥))
  lay_long_iff =
      let by = of_run (refusing BadRunLength 0 0) (omega arith) in
      (λ e. ((by.0 e).0, (run_15 R run).0 (by.0 e).1), λ h. by.1 (h.0, (run_15 R run).1 h.1))

  -- 16: some number is not below n
  pub lay_number_iff : (lay_fault R run T ≡ refused BadPartitionNumber)
      ↔ (Buildable R T × (length run ≡ rules_in R) × ((i : ℕ) × (i < rules_in R) × (rules_in R ≤ part_of run i)))
  lay_number_iff =
      let by = of_run (refusing BadPartitionNumber 0 0) (omega arith) in (
        λ e.
            let at = (run_16 R run).0 (by.0 e).1 in
            ((by.0 e).0, at.0, (misfit_iff (rules_in R) run).0 at.1),
        λ h. by.1 (h.0, (run_16 R run).1 (h.1, (misfit_iff (rules_in R) run).1 h.2)),
      )

  -- none of 15 and 16
  pub record Fits : Type 0 where
    pub fine : Buildable R T
    pub one_each : length run ≡ rules_in R
    pub below : (i : ℕ) → i < rules_in R → part_of run i < rules_in R

  -- 17: a number below the largest has no rule
  pub lay_empty_iff : (lay_fault R run T ≡ refused EmptyPartition)
      ↔ (Fits × ((q : ℕ) × (q < parts run (rules_in R)) × ((i : ℕ) → i < rules_in R → part_of run i ≡ q → ⊥)))
  lay_empty_iff =
      let by = of_run (refusing EmptyPartition 0 0) (omega arith) in (
        λ e.
            let at = (run_17 R run).0 (by.0 e).1 in
            (record { fine = (by.0 e).0; one_each = at.0; below = (fit_iff (rules_in R) run).0 at.1 }, (gap_iff (rules_in R) run).0 at.2),
        λ h.
            let fits = h.0 in
            by.1 (fits.fine, (run_17 R run).1 (fits.one_each, (fit_iff (rules_in R) run).1 fits.below, (gap_iff (rules_in R) run).1 h.1)),
      )

  -- 18: two rules of one partition clash
  pub lay_clash_iff : (lay_fault R run T ≡ refused ClashInPartition)
      ↔ (Fits
      × ((q : ℕ) → q < parts run (rules_in R) → (i : ℕ) × (i < rules_in R) × (part_of run i ≡ q))
      × ((i : ℕ) × (j : ℕ) × Clashing R run i j))
  lay_clash_iff =
      let by = of_run (refusing ClashInPartition 0 0) (omega arith) in (
        λ e.
            let at = (run_18 R run).0 (by.0 e).1 in (
              record { fine = (by.0 e).0; one_each = at.0; below = (fit_iff (rules_in R) run).0 at.1 },
              (gapless_iff (rules_in R) run).0 at.2,
              (clash_iff R run).0 at.3,
            ),
        λ h.
            let fits = h.0 in
            by.1
            (fits.fine, (run_18 R run).1 (fits.one_each, (fit_iff (rules_in R) run).1 fits.below, (gapless_iff (rules_in R) run).1 h.1, (clash_iff R run).1 h.2)),
      )

  -- what the writing of a table asks
  pub layable_laying : Layable → Laying R run T
  layable_laying h = record { dealt = record { no_fault = h.fine.no_fault; one_each = h.one_each; choice = h.choice }; sized = h.fine.sized }

-- ---- as the code works a run's refusal out: its length is right, and s, g and t are what the tests said
module _ (R : Rules) (run : List ℕ) (is : none ≡ length_fault R run) where
  by_one_each : length run ≡ rules_in R
  by_one_each = (long_none R run).0 (sym is)

  run_is : run_fault R run ≡ row true (numbers_fit (length run) run) (no_gap (length run) run) (no_clash R run)
  run_is = run_row R run ∙ rw (by_one_each, eq-eqb (rules_in R) (rules_in R) refl)

  module _ (fine : list_fault R ≡ none) where
    pub by-numbered : Numbered R run
    by-numbered = record { shape_stands = list_shaped R fine; one_each = by_one_each }

    pub by_few : length run ≤ most_rules
    by_few = let few = (list_shaped R fine).few_rules in omega (arith, by_one_each)

    pub by_fitting : {s : Bool} → s ≡ numbers_fit (length run) run → not s ≡ false → Fitting run
    by_fitting {s} is-s fits =
        record { few = by_few; below = λ i lt. omega (arith, by_few, (fit_iff (length run) run).0 (sym is-s ∙ not-false s fits) i lt) }

  module _ {s : Bool} (is-s : s ≡ numbers_fit (length run) run) where
    pub by_number : not s ≡ true → refused BadPartitionNumber ≡ run_fault R run
    by_number e = sym (run_is ∙ rw (← is-s, not-true s e))

    module _ (fits : not s ≡ false) {g : Bool} (is-g : g ≡ no_gap (length run) run) where
      pub by_gap : not g ≡ true → refused EmptyPartition ≡ run_fault R run
      by_gap e = sym (run_is ∙ rw (← is-s, not-false s fits, ← is-g, not-true g e))

      module _ (gapless : not g ≡ false) {t : Bool} (is-t : t ≡ no_clash R run) where
        pub by-clash : not t ≡ true → refused ClashInPartition ≡ run_fault R run
        by-clash e = sym (run_is ∙ rw (← is-s, not-false s fits, ← is-g, not-false g gapless, ← is-t, not-true t e))

        pub by-fine : not t ≡ false → none ≡ run_fault R run
        by-fine e = sym (run_is ∙ rw (← is-s, not-false s fits, ← is-g, not-false g gapless, ← is-t, not-false t e))
