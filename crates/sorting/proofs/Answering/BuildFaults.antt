-- Laws of the refusals of a build and an audit (`specs/Build.antt`): which of 1 to 5 a list and a table meet.
--     fault-length, fine-none, buildable             5, none of 1 to 5, and what a list and a table are that meet none
--     list_few, build_few, five_by_length            the numbers are at most 4, and 5, so that 5 tells where it comes from
-- Assumes nothing.
use Prim.Native.Nat.{ℕ, ◌≤◌}
use mathlib.Core.Bool.{Bool, true, false}
use mathlib.Core.List.{List}
use mathlib.Core.Path.{◌≡◌, ap}
use native.Mathlib.Omega.{arith}
use lib.ListN.{length}
use lib.Dec.{ltb, eqb}
use borrow.Author.Tests.{eq-eqb, ne_eqb, eqb-true, eqb-false}
use Rattle.std.specs.Prelude.{Ok, Err}
use Rattle.ranges.specs.Numbers.{pick, least}
use Rattle.ranges.specs.Refusals.{Fault, none, refusing, refused, refused_at, or_else, number_in}
use Rattle.ranges.specs.declared.refusal.Cause.TheVariants.{LowAboveHigh, BadTableLength}
use Rattle.ranges.proofs.InARow.{else_none, else_iff, test_none, test_iff}
use Rattle.lists.specs.Rules.{Rules, fields_of, rules_in, is_void}
use Rattle.lists.specs.Faults.{shape_fault, bad_rule, ends_fault, list_fault}
use Rattle.lists.proofs.Faults.{shape_few}
use Rattle.tables.specs.Layout.{table_length}
use Rattle.tables.specs.Opening.{table_fault}
use Rattle.sorting.specs.Build.{Buildable, build_fault}

-- ---- which number a refusal has
-- a list is refused by 1 to 4 alone
pub list_few : (R : Rules) → number_in (list_fault R) ≤ 4
unfolding ends_fault
list_few R = go (shape_fault R) (ltb (bad_rule R) (rules_in R)) (shape_few R)
  where
    go : (x : Fault) (t : Bool) → number_in x ≤ 3
        → number_in (or_else x (pick t (refused_at LowAboveHigh (bad_rule R) (least (fields_of R) (is_void R (bad_rule R)))) none)) ≤ 4
    go (Ok u) true le = omega arith
    go (Ok u) false le = omega arith
    go (Err x) t le = omega arith

-- and with a table by 1 to 5
pub build_few : (R : Rules) (T : List ℕ) → number_in (build_fault R T) ≤ 5
unfolding build_fault
build_few R T = go (list_fault R) (eqb (length T) (table_length (rules_in R) (fields_of R))) (list_few R)
  where
    go : (x : Fault) (t : Bool) → number_in x ≤ 4 → number_in (or_else x (pick t none (refused BadTableLength))) ≤ 5
    go (Ok u) true le = omega arith
    go (Ok u) false le = omega arith
    go (Err x) t le = omega arith

-- ---- 1 to 5
module _ (R : Rules) (T : List ℕ) where
  abbrev sized : Bool
  sized = eqb (length T) (table_length (rules_in R) (fields_of R))

  -- 5 is given exactly where the list is fine and the table is not
  pub fault-length : list_fault R ≡ none → (length T ≡ table_length (rules_in R) (fields_of R) → ⊥) → build_fault R T ≡ refused BadTableLength
  unfolding build_fault
  fault-length z ne = rw (z, ne_eqb (length T) (table_length (rules_in R) (fields_of R)) ne)

  pub five_by_length : build_fault R T ≡ refused BadTableLength → (list_fault R ≡ none) × (length T ≡ table_length (rules_in R) (fields_of R) → ⊥)
  unfolding build_fault
  five_by_length e =
      let at = (else_iff (list_fault R) (table_fault R T) (refusing BadTableLength 0 0) (λ five. omega (arith, ap number_in five, list_few R))).0 e in
      (at.0, eqb-false (length T) (table_length (rules_in R) (fields_of R)) ((test_iff sized (refusing BadTableLength 0 0)).0 at.1))

  pub fine-none : Buildable R T → build_fault R T ≡ none
  unfolding build_fault
  fine-none h = rw (h.no_fault, eq-eqb (length T) (table_length (rules_in R) (fields_of R)) h.sized.long)

  -- a list and a table that meet none of them
  pub buildable : build_fault R T ≡ none → Buildable R T
  unfolding build_fault
  buildable z =
      let at = (else_none (list_fault R) (table_fault R T)).0 z in
      record {
        no_fault = at.0;
        sized = record { long = eqb-true (length T) (table_length (rules_in R) (fields_of R)) ((test_none sized (refusing BadTableLength 0 0)).0 at.1) };
      }
