-- Laws of the audit (`specs/Audit.antt`): it says yes where some choice of partitions makes the table, and the tests of the code say whether
-- one does.
--     laid_made, made_laid        the run read off makes the table exactly where some choice does
--     checks_laid                 the tests say the same
-- Assumes nothing.
use Prim.Native.Nat.{ℕ}
use mathlib.Core.Bool.{Bool, true, false}
use mathlib.Core.List.{List}
use mathlib.Core.Path.{◌≡◌, refl, sym, ap, ◌∙◌}
use Rattle.ranges.specs.Numbers.{same_list}
use Rattle.ranges.specs.Refusals.{Fault, stands}
use Rattle.ranges.proofs.Numbers.{and_left, and_right, and_both, same_list-refl, same_list_equal}
use Rattle.lists.specs.Rules.{Rules}
use Rattle.lists.proofs.Sound.{list_shaped, list_sound}
use Rattle.sorting.specs.Table.{table_of}
use Rattle.sorting.specs.Build.{Buildable}
use Rattle.sorting.specs.Brought.{run_fault}
use Rattle.sorting.proofs.Answering.RunFaults.{run_none_iff}
use Rattle.auditing.specs.ReadOff.{read_off}
use Rattle.auditing.specs.Checks.{checks}
use Rattle.auditing.specs.Audit.{is_laid}
use Rattle.auditing.proofs.Laid.{Made, checked_made, made_checked, off_back}
use Rattle.auditing.proofs.Tested.{fault_none, passed, passed_all, passed_checked, checked_passed}

-- ---- a list and a table that meet none of 1 to 5
module _ (R : Rules) (T : List ℕ) (h : Buildable R T) where
  pub laid_made : is_laid R T ≡ true → Made R T
  unfolding is_laid
  laid_made e =
      let fine = stands (run_fault R (read_off R T)) in
      let same = same_list T (table_of R (read_off R T)) in
      let told = (run_none_iff R (read_off R T)).0 (fault_none (run_fault R (read_off R T)) (and_left fine same e)) in
      record { run = read_off R T; one_each = told.0; choice = told.1; is = same_list_equal T (table_of R (read_off R T)) (and_right fine same e) }

  pub made_laid : Made R T → is_laid R T ≡ true
  unfolding is_laid
  made_laid m =
      let is : read_off R T ≡ m.run = ap (read_off R) m.is ∙ off_back (list_sound R h.no_fault) m.choice m.one_each in
      let one : table_of R (read_off R T) ≡ T = ap (table_of R) is ∙ sym m.is in
      and_both (stands (run_fault R (read_off R T))) (same_list T (table_of R (read_off R T)))
      (rw is (ap (λ (x : Fault). stands x) ((run_none_iff R m.run).1 (m.one_each, m.choice))))
      (rw one (same_list-refl T))

  pub checks_laid : checks R T ≡ is_laid R T
  checks_laid = go (checks R T) (is_laid R T) refl refl
    where
      go : (s t : Bool) → checks R T ≡ s → is_laid R T ≡ t → s ≡ t
      go true true e g = refl
      go false false e g = refl
      go true false e g = sym (made_laid (checked_made R T (list_sound R h.no_fault) h.sized (passed_checked R T (passed R T e)))) ∙ g
      go false true e g =
          sym e ∙ passed_all R T (checked_passed R T (list_shaped R h.no_fault) h.sized (made_checked R T (list_sound R h.no_fault) (laid_made g)))
