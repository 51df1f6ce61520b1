-- What is not refused of a choice and of a laying out (`specs/Brought.antt`); and that a build is the two in turn.
--     chosen_fine, laid_fine, laid_dealt      a run that may be chosen into, and what may be laid out
--     fit_layable, build_turned               first fit is laid out, so a build is the two in turn
-- Assumes nothing.
use Prim.Native.Nat.{ℕ}
use mathlib.Core.List.{List}
use mathlib.Core.Path.{◌≡◌, refl, sym}
use lib.ListN.{length}
use Rattle.std.specs.Prelude.{Ok, Err}
use Rattle.ranges.specs.Refusals.{Fault, none}
use Rattle.lists.specs.Rules.{Rules, rules_in}
use Rattle.ranges.proofs.InARow.{written}
use Rattle.sorting.specs.FirstFit.{first_fit}
use Rattle.sorting.specs.Asked.{Numbered, Dealt, Laying}
use Rattle.sorting.specs.Build.{Buildable, build_fault, build_of, table_after}
use Rattle.sorting.specs.Brought.{choose_fault, run_after, lay_fault, lay_out_of, laid_after}
use Rattle.sorting.proofs.Answering.RunFaults.{choosable_iff, choosable_run, Layable, layable_iff, layable_laying, lay_first}
use Rattle.sorting.proofs.Answering.BuildFaults.{buildable}
use Rattle.sorting.proofs.Partitions.FirstFits.{first_fit-length, first_fit_choice}

-- ---- what is not refused, as a callee answered
pub chosen_fine : (R : Rules) (run : List ℕ) → none ≡ choose_fault R run → Numbered R run
chosen_fine R run is = choosable_run R run ((choosable_iff R run).0 (sym is))

pub laid_fine : (R : Rules) (run T : List ℕ) → none ≡ lay_fault R run T → Laying R run T
laid_fine R run T is = layable_laying R run T ((layable_iff R run T).0 (sym is))

pub laid_dealt : (R : Rules) (run T : List ℕ) → none ≡ lay_fault R run T → Dealt R run
laid_dealt R run T is = (laid_fine R run T is).dealt

-- ---- the two in turn
module _ (R : Rules) (T : List ℕ) where
  -- first fit's run may be laid out
  pub fit_layable : Buildable R T → Layable R (first_fit R (rules_in R)) T
  fit_layable h = record { fine = h; one_each = first_fit-length R (rules_in R); choice = first_fit_choice R }

  -- a run with a number for each rule, chosen into and then laid out, gives what a build gives
  pub build_turned : (run : List ℕ) → length run ≡ rules_in R
      → (build_of R T ≡ lay_out_of R (run_after R run) T) × (table_after R T ≡ laid_after R (run_after R run) T)
  build_turned run one_each = go (build_fault R T) refl
    where
      go : (x : Fault) → build_fault R T ≡ x
          → (build_of R T ≡ lay_out_of R (run_after R run) T) × (table_after R T ≡ laid_after R (run_after R run) T)
      go (Err x) e = rw (e, lay_first R (run_after R run) T e) (refl, refl)
      go (Ok u) e =
          let h = buildable R T e in
          let fit : run_after R run ≡ first_fit R (rules_in R)
          = written (choose_fault R run) (first_fit R (rules_in R)) run ((choosable_iff R run).1 (record { no_fault = h.no_fault; one_each = one_each })) in
          let laid = (layable_iff R (first_fit R (rules_in R)) T).1 (fit_layable h) in
          rw (fit, e, laid) (refl, refl)
