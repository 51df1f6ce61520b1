-- Laws of a list that is lent in full (02, W7; `specs/Faults.antt`, `room_fault`), and of its first rules, the part in use (`specs/Rules.antt`, `first_rules`).
--     room_no_fields, room_many_fields, room_other_length, room_stands      1, 2, and none of them
--     roomy, roomy_none, room_few                                a list that meets neither
--     used_ends, used_within                                     where the part in use ends, and that the list has it
--     used_rules, used_shaped                                    the first k rules are k, and their shape stands
-- Assumes nothing.
use Prim.Native.Nat.{ℕ, ◌*◌, ◌/◌, ◌≤◌, ◌<◌}
use mathlib.Core.Bool.{Bool, true, false}
use mathlib.Core.Path.{◌≡◌, refl, sym, ap, ◌∙◌}
use native.Mathlib.Omega.{arith}
use native.Mathlib.Nat.{mul-le-mul_right, mul_assoc, mul-div_cancel}
use lib.ListN.{length}
use lib.Seq.{length-take-le}
use lib.Dec.{ltb, eqb}
use borrow.Author.Tests.{lt-ltb, le-ltb, eq-eqb, ne_eqb, ltb-false, eqb-true}
use Rattle.ranges.specs.Numbers.{pick, ◌or◌}
use Rattle.ranges.specs.Refusals.{none, refused, number_in}
use Rattle.ranges.specs.declared.refusal.Cause.TheVariants.{BadFields, BadLength}
use Rattle.ranges.proofs.InARow.{not-none}
use Rattle.lists.specs.Limits.{most_rules, full_length}
use Rattle.lists.specs.Rules.{Rules, fields_of, rules_in, offset_of, first_rules, Roomy, Shaped}
use Rattle.lists.specs.Faults.{room_fault}

-- ---- 1, 2
module _ (R : Rules) where
  pub room_no_fields : fields_of R < 1 → room_fault R ≡ refused BadFields
  unfolding room_fault
  room_no_fields few = rw (lt-ltb (fields_of R) 1 few)

  module _ (some : 1 ≤ fields_of R) where
    pub room_many_fields : 8 < fields_of R → room_fault R ≡ refused BadFields
    unfolding room_fault
    room_many_fields many = rw (le-ltb (fields_of R) 1 some, lt-ltb 8 (fields_of R) many)

    module _ (few : fields_of R ≤ 8) where
      pub room_other_length : (length R.numbers ≡ full_length (fields_of R) → ⊥) → room_fault R ≡ refused BadLength
      unfolding room_fault
      room_other_length ne = rw (le-ltb (fields_of R) 1 some, le-ltb 8 (fields_of R) few, ne_eqb (length R.numbers) (full_length (fields_of R)) ne)

      pub room_stands : length R.numbers ≡ full_length (fields_of R) → room_fault R ≡ none
      unfolding room_fault
      room_stands long = rw (le-ltb (fields_of R) 1 some, le-ltb 8 (fields_of R) few, eq-eqb (length R.numbers) (full_length (fields_of R)) long)

-- ---- a list that meets neither
pub roomy : (R : Rules) → room_fault R ≡ none → Roomy R
unfolding room_fault
roomy R = go (ltb (fields_of R) 1) (ltb 8 (fields_of R)) (eqb (length R.numbers) (full_length (fields_of R))) refl refl refl
  where
    go : (a b e : Bool) → ltb (fields_of R) 1 ≡ a → ltb 8 (fields_of R) ≡ b → eqb (length R.numbers) (full_length (fields_of R)) ≡ e
        → (pick (a or b) (refused BadFields) (pick e none (refused BadLength))) ≡ none
        → Roomy R
    go true b e p q r z = absurd (not-none z)
    go false true e p q r z = absurd (not-none z)
    go false false false p q r z = absurd (not-none z)
    go false false true p q r z =
        record {
          some_fields = ltb-false (fields_of R) 1 p;
          few_fields = ltb-false 8 (fields_of R) q;
          long = eqb-true (length R.numbers) (full_length (fields_of R)) r;
        }

pub roomy_none : {R : Rules} → Roomy R → room_fault R ≡ none
roomy_none {R} h = room_stands R h.some_fields h.few_fields h.long

pub room_few : (R : Rules) → number_in (room_fault R) ≤ 2
unfolding room_fault
room_few R = go (ltb (fields_of R) 1) (ltb 8 (fields_of R)) (eqb (length R.numbers) (full_length (fields_of R)))
  where
    go : (a b e : Bool) → number_in (pick (a or b) (refused BadFields) (pick e none (refused BadLength))) ≤ 2
    go true b e = omega arith
    go false true e = omega arith
    go false false false = omega arith
    go false false true = omega arith

-- ---- the part in use
-- where it ends, as the code works it out
pub used_ends : (d k : ℕ) → offset_of d k 0 ≡ k * d * 2
unfolding offset_of
used_ends d k = omega arith

module _ {R : Rules} (room : Roomy R) {k : ℕ} (few : k ≤ most_rules) where
  pub used_within : k * fields_of R * 2 ≤ length R.numbers
  used_within = omega (arith, room.long, mul-le-mul_right (fields_of R) few)

  used_long : length (first_rules k R).numbers ≡ k * fields_of R * 2
  used_long = length-take-le (k * fields_of R * 2) R.numbers used_within

  pub used_rules : rules_in (first_rules k R) ≡ k
  unfolding rules_in
  used_rules =
      let pos : 0 < fields_of R * 2 = omega (arith, room.some_fields) in
      ap (λ n. n / (fields_of R * 2)) (used_long ∙ mul_assoc k (fields_of R) 2) ∙ mul-div_cancel k pos

  pub used_shaped : Shaped (first_rules k R)
  used_shaped =
      record {
        some_fields = room.some_fields;
        few_fields = room.few_fields;
        whole = used_long ∙ ap (λ n. n * fields_of R * 2) (sym used_rules);
        few_rules = omega (arith, used_rules);
      }
