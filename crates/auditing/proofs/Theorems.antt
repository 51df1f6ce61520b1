-- What a reader may rely on of the audit (of layer 3). The statements, R a list with its shape, T a table, run a run of partition numbers:
--
--     T12  audit_yes_iff            an audit says yes exactly when there is a run that `lay_out` accepts and whose table this is: handed this
--                                   list, this run and this table, it answers b and leaves the table as it is
--          audit_no_iff             it says no exactly when none of 1 to 5 applies and there is no such run
--          one_run_alone            there is no second such run
--          read_off_is_run          the run read off the table that a list and a choice make is that choice
--          checked_iff              a list and a table that meet none of 1 to 5 have the local facts (`Checked`) exactly when there is such a run
--          lay_out_then_audit       a table that was just laid out is audited yes
--          build_then_audit         a table that was just built is audited yes
--          audit_fine, audited_promises      of a list and a table that are audited yes none of 1 to 5 applies, and the table keeps the promise
--
-- The contract of `audit` is an equation with `audit_of`, so each statement is one on the function.
-- Assumes nothing.
use Prim.Native.Nat.{ℕ}
use mathlib.Core.Bool.{Bool, true, false}
use mathlib.Core.List.{List}
use mathlib.Core.Logic.{◌↔◌}
use mathlib.Core.Path.{◌≡◌, refl, sym, ◌∙◌, subst}
use lib.ListN.{length}
use Rattle.std.specs.Prelude.{Result, Ok}
use Rattle.ranges.specs.Refusals.{Refusal, none}
use Rattle.ranges.proofs.Numbers.{true-not-false}
use Rattle.ranges.proofs.InARow.{else_none}
use Rattle.lists.specs.Rules.{Rules, rules_in}
use Rattle.lists.specs.Faults.{list_fault}
use Rattle.lists.proofs.Sound.{list_sound}
use Rattle.tables.specs.Opening.{view_of}
use Rattle.sorting.specs.FirstFit.{first_fit, parts, Choice}
use Rattle.sorting.specs.Table.{table_of}
use Rattle.sorting.specs.Promise.{Promise}
use Rattle.sorting.specs.Build.{Buildable, build_fault, table_after}
use Rattle.sorting.specs.Brought.{lay_out_of, laid_after}
use Rattle.sorting.proofs.Sorted.Reading.{table_sized}
use Rattle.sorting.proofs.Sorted.Kept.{choice_keeps_promise}
use Rattle.sorting.proofs.Answering.BuildFaults.{buildable, fine-none}
use Rattle.sorting.proofs.Answering.RunFaults.{Layable}
use Rattle.sorting.proofs.Answering.InTurn.{fit_layable}
use Rattle.sorting.proofs.Theorems.{lay_out_is_b_iff, laid_table, built_table_lem}
use Rattle.auditing.specs.ReadOff.{read_off}
use Rattle.auditing.specs.Checked.{Checked}
use Rattle.auditing.specs.Audit.{is_laid, audit_of}
use Rattle.auditing.proofs.Laid.{Made, checked_made, made_checked, made_once, off_back}
use Rattle.auditing.proofs.Audits.{laid_made, made_laid}

-- this run makes `lay_out` write this table: it answers b and leaves the table as it is
pub record Lays (R : Rules) (T run : List ℕ) : Type 0 where
  pub b : ℕ
  pub answers : lay_out_of R run T ≡ Ok b
  pub leaves : laid_after R run T ≡ T

module _ (R : Rules) (T : List ℕ) where
  -- ---- such a run is a choice that makes the table
  lays_layable : (run : List ℕ) → Lays R T run → Layable R run T
  lays_layable run h = ((lay_out_is_b_iff R run T h.b).0 h.answers).0

  lays_made : (run : List ℕ) → Lays R T run → Made R T
  lays_made run h =
      let fine = lays_layable run h in
      record { run = run; one_each = fine.one_each; choice = fine.choice; is = sym h.leaves ∙ laid_table R run T fine }

  made_lays : Buildable R T → (m : Made R T) → Lays R T m.run
  made_lays h m =
      let fine : Layable R m.run T = record { fine = h; one_each = m.one_each; choice = m.choice } in
      record {
        b = parts m.run (rules_in R);
        answers = (lay_out_is_b_iff R m.run T (parts m.run (rules_in R))).1 (fine, refl);
        leaves = laid_table R m.run T fine ∙ sym m.is;
      }

  -- what a yes says, and what gives one
  -- what is said where nothing is refused
  said_laid : (t : Bool) → audit_of R T ≡ Ok t → Buildable R T × (is_laid R T ≡ t)
  said_laid t e =
      let told = (else_none (build_fault R T) (Ok (is_laid R T))).0 e in
      let same = told.1 in
      (buildable R T told.0, cc)

  yes_made : audit_of R T ≡ Ok true → Buildable R T × Made R T
  yes_made e = let told = said_laid true e in (told.0, laid_made R T told.0 told.1)

  made_yes : Buildable R T → Made R T → audit_of R T ≡ Ok true
  made_yes h m = rw (fine-none R T h, made_laid R T h m)

  -- ---- T12
  pub audit_yes_iff : (audit_of R T ≡ Ok true) ↔ ((run : List ℕ) × Lays R T run)
  audit_yes_iff = (
    λ e. let made = yes_made e in (made.1.run, made_lays made.0 made.1),
    λ h. made_yes (lays_layable h.0 h.1).fine (lays_made h.0 h.1),
  )

  pub audit_no_iff : (audit_of R T ≡ Ok false) ↔ (Buildable R T × ((run : List ℕ) → Lays R T run → ⊥))
  audit_no_iff = (to, fro)
    where
      to : audit_of R T ≡ Ok false → Buildable R T × ((run : List ℕ) → Lays R T run → ⊥)
      to e =
          let told = said_laid false e in
          (told.0, λ run lays. true-not-false (made_laid R T told.0 (lays_made run lays)) told.1)

      fro : Buildable R T × ((run : List ℕ) → Lays R T run → ⊥) → audit_of R T ≡ Ok false
      fro h = rw (fine-none R T h.0) (go (is_laid R T) refl)
        where
          go : (t : Bool) → is_laid R T ≡ t → ◌≡◌ {A = Result Bool Refusal} (Ok t) (Ok false)
          go true e = let m = laid_made R T h.0 e in absurd (h.1 m.run (made_lays h.0 m))
          go false e = refl

  pub one_run_alone : (run other : List ℕ) → Lays R T run → Lays R T other → run ≡ other
  unfolding lays_made
  one_run_alone run other h h' = made_once R T (list_sound R (lays_layable run h).fine.no_fault) (lays_made run h) (lays_made other h')

  pub checked_iff : Buildable R T → Checked R (view_of R T) ↔ ((run : List ℕ) × Lays R T run)
  checked_iff h =
      let sound = list_sound R h.no_fault in (
        λ facts. let m = checked_made R T sound h.sized facts in (m.run, made_lays h m),
        λ lays. made_checked R T sound (lays_made lays.0 lays.1),
      )

  -- none of 1 to 5 applies where yes is said
  pub audit_fine : audit_of R T ≡ Ok true → Buildable R T
  audit_fine e = (yes_made e).0

  pub audited_promises : audit_of R T ≡ Ok true → Promise R (view_of R T)
  audited_promises e =
      let made = yes_made e in
      subst (λ S. Promise R (view_of R S)) (sym made.1.is) (choice_keeps_promise (list_sound R made.0.no_fault) made.1.choice)

pub read_off_is_run : (R : Rules) (run : List ℕ) (b : ℕ) → list_fault R ≡ none → length run ≡ rules_in R → Choice R run b → read_off R (table_of R run) ≡ run
read_off_is_run R run b fine one_each choice = off_back (list_sound R fine) choice one_each

-- ---- what was written is audited yes
pub lay_out_then_audit : (R : Rules) (run T : List ℕ) → Layable R run T → audit_of R (laid_after R run T) ≡ Ok true
lay_out_then_audit R run T h =
    let is = laid_table R run T h in
    made_yes R (laid_after R run T) (record { no_fault = h.fine.no_fault; sized = rw is (table_sized R run) })
    (record { run = run; one_each = h.one_each; choice = h.choice; is = is })

pub build_then_audit : (R : Rules) (T : List ℕ) → Buildable R T → audit_of R (table_after R T) ≡ Ok true
build_then_audit R T h =
    let fit = fit_layable R T h in
    let same : table_after R T ≡ laid_after R (first_fit R (rules_in R)) T = built_table_lem R T h ∙ sym (laid_table R (first_fit R (rules_in R)) T fit) in
    rw same (lay_out_then_audit R (first_fit R (rules_in R)) T fit)
