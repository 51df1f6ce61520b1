-- Laws of the refusals 1 to 4 of a list (`specs/Faults.antt`): which one a list meets, from the tests that lead there, and what
-- a list is that meets none.
--     shape_no_fields, shape_many_fields, shape_part_rule, shape_many_rules, shape_stands      1, 2, 3, and none of them
--     counted_part_rule, counted_many_rules, counted_stands                       the same, of n as worked out by a callee
--     shaped                                                     a list that meets none of 1, 2, 3
--     shape_few                                                  the number of a shape's refusal is at most 3
--     shape_of, ends_of                                          a list that meets none of 1 to 4 meets none of 1, 2, 3, and not 4
-- Assumes nothing.
use Prim.Native.Nat.{ℕ, ◌*◌, ◌%◌, ◌≤◌, ◌<◌}
use mathlib.Core.Bool.{Bool, true, false, not}
use mathlib.Core.Path.{◌≡◌, refl, sym}
use native.Mathlib.Omega.{arith}
use lib.ListN.{length}
use lib.Dec.{ltb, eqb}
use borrow.Author.Tests.{lt-ltb, le-ltb, eq-eqb, ne_eqb, ltb-false, eqb-true}
use Rattle.ranges.specs.Numbers.{pick, ◌or◌}
use Rattle.ranges.specs.Refusals.{none, refused, number_in}
use Rattle.ranges.specs.declared.refusal.Cause.TheVariants.{BadFields, BadLength, TooManyRules}
use Rattle.ranges.proofs.InARow.{not-none, else_none}
use Rattle.lists.specs.Rules.{Rules, fields_of, rules_in}
use Rattle.lists.specs.Faults.{shape_fault, ends_fault, list_fault}
use Rattle.lists.proofs.Rules.{Shaped, whole_length, length_whole}

-- ---- 1, 2, 3
module _ (R : Rules) where
  pub shape_no_fields : fields_of R < 1 → shape_fault R ≡ refused BadFields
  unfolding shape_fault
  shape_no_fields few = rw (lt-ltb (fields_of R) 1 few)

  pub shape_many_fields : 1 ≤ fields_of R → 8 < fields_of R → shape_fault R ≡ refused BadFields
  unfolding shape_fault
  shape_many_fields some many = rw (le-ltb (fields_of R) 1 some, lt-ltb 8 (fields_of R) many)

module _ (R : Rules) (some : 1 ≤ fields_of R) (few : fields_of R ≤ 8) where
  pub shape_part_rule : (rules_in R * fields_of R * 2 ≡ length R.numbers → ⊥) → shape_fault R ≡ refused BadLength
  unfolding shape_fault
  shape_part_rule odd =
      let left : length R.numbers % (fields_of R * 2) ≡ 0 → ⊥ = λ e. odd (sym (whole_length R e)) in
      rw (le-ltb (fields_of R) 1 some, le-ltb 8 (fields_of R) few, ne_eqb (length R.numbers % (fields_of R * 2)) 0 left)

module _ (R : Rules) (some : 1 ≤ fields_of R) (few : fields_of R ≤ 8) (whole : rules_in R * fields_of R * 2 ≡ length R.numbers) where
  -- past 1 and 2
  by_rules_alone : shape_fault R ≡ pick (ltb 1024 (rules_in R)) (refused TooManyRules) none
  unfolding shape_fault
  by_rules_alone =
      rw
      (le-ltb (fields_of R) 1 some, le-ltb 8 (fields_of R) few, eq-eqb (length R.numbers % (fields_of R * 2)) 0 (length_whole R whole))

  pub shape_many_rules : 1024 < rules_in R → shape_fault R ≡ refused TooManyRules
  shape_many_rules many = rw (by_rules_alone, lt-ltb 1024 (rules_in R) many)

  pub shape_stands : rules_in R ≤ 1024 → shape_fault R ≡ none
  shape_stands few_rules = rw (by_rules_alone, le-ltb 1024 (rules_in R) few_rules)

-- the same, of n as worked out by a callee
module _ (R : Rules) (m : ℕ) (is_n : m ≡ rules_in R) (some : 1 ≤ fields_of R) (few : fields_of R ≤ 8) where
  pub counted_part_rule : (m * fields_of R * 2 ≡ length R.numbers → ⊥) → shape_fault R ≡ refused BadLength
  counted_part_rule odd = shape_part_rule R some few (λ e. odd (rw is_n e))

  pub counted_many_rules : m * fields_of R * 2 ≡ length R.numbers → 1024 < m → shape_fault R ≡ refused TooManyRules
  counted_many_rules whole many = shape_many_rules R some few (rw is_n at whole) (rw is_n at many)

  pub counted_stands : m * fields_of R * 2 ≡ length R.numbers → m ≤ 1024 → shape_fault R ≡ none
  counted_stands whole few_rules = shape_stands R some few (rw is_n at whole) (rw is_n at few_rules)

-- a list that meets none of 1, 2, 3
pub shaped : (R : Rules) → shape_fault R ≡ none → Shaped R
unfolding shape_fault
shaped R = go (ltb (fields_of R) 1) (ltb 8 (fields_of R)) (eqb (length R.numbers % (fields_of R * 2)) 0) (ltb 1024 (rules_in R)) refl refl refl refl
  where
    go : (a b e g : Bool) → ltb (fields_of R) 1 ≡ a → ltb 8 (fields_of R) ≡ b → eqb (length R.numbers % (fields_of R * 2)) 0 ≡ e → ltb 1024 (rules_in R) ≡ g
        → (pick (a or b) (refused BadFields) (pick (not e) (refused BadLength) (pick g (refused TooManyRules) none))) ≡ none
        → Shaped R
    go true b e g p q r s z = absurd (not-none z)
    go false true e g p q r s z = absurd (not-none z)
    go false false false g p q r s z = absurd (not-none z)
    go false false true true p q r s z = absurd (not-none z)
    go false false true false p q r s z =
        record {
          some_fields = ltb-false (fields_of R) 1 p;
          few_fields = ltb-false 8 (fields_of R) q;
          whole = whole_length R (eqb-true (length R.numbers % (fields_of R * 2)) 0 r);
          few_rules = ltb-false 1024 (rules_in R) s;
        }

pub shape_few : (R : Rules) → number_in (shape_fault R) ≤ 3
unfolding shape_fault
shape_few R = go (ltb (fields_of R) 1) (ltb 8 (fields_of R)) (eqb (length R.numbers % (fields_of R * 2)) 0) (ltb 1024 (rules_in R))
  where
    go : (a b e g : Bool) → number_in (pick (a or b) (refused BadFields) (pick (not e) (refused BadLength) (pick g (refused TooManyRules) none))) ≤ 3
    go true b e g = omega arith
    go false true e g = omega arith
    go false false false g = omega arith
    go false false true true = omega arith
    go false false true false = omega arith

-- ---- 1 to 4
module _ (R : Rules) (z : list_fault R ≡ none) where
  pub shape_of : shape_fault R ≡ none
  shape_of = ((else_none (shape_fault R) (ends_fault R)).0 z).0

  pub ends_of : ends_fault R ≡ none
  ends_of = ((else_none (shape_fault R) (ends_fault R)).0 z).1
