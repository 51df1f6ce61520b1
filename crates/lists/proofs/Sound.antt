-- What a list is that meets none of the refusals 1 to 4 (`specs/Faults.antt`): its shape stands, and every range holds a number.
--     Sound                        low is less than the first number past the range, in each field of each rule
--     ends_sound, sound_ends       a list that does not meet 4 is sound, and a sound one does not meet 4
--     list_shaped, list_sound      of a list that meets none of 1 to 4: its shape, its ranges
--     Accepted                     both at once; `list_accepted`, `accepted_none`: exactly the lists that meet none of 1 to 4
-- Assumes nothing.
use Prim.Native.Nat.{ℕ, ◌≤◌, ◌<◌}
use mathlib.Core.Bool.{Bool, true, false}
use mathlib.Core.Path.{◌≡◌, refl, sym}
use native.Mathlib.Omega.{arith}
use lib.Dec.{ltb}
use borrow.Author.Tests.{ltb-false}
use Rattle.ranges.specs.Numbers.{pick, least}
use Rattle.ranges.specs.Refusals.{none, refused_at}
use Rattle.ranges.specs.declared.refusal.Cause.TheVariants.{LowAboveHigh}
use Rattle.ranges.proofs.InARow.{not-none}
use Rattle.ranges.proofs.Numbers.{least_under}
use Rattle.lists.specs.Rules.{Rules, fields_of, rules_in, low_of, ends_at, is_void, Shaped}
use Rattle.lists.specs.Faults.{shape_fault, bad_rule, ends_fault, list_fault}
use Rattle.lists.proofs.Search.{Answered}
use Rattle.lists.proofs.Faults.{shaped, shape_of, ends_of, shape_stands}
use Rattle.lists.proofs.Voids.{bad, SoundRule, not-bad, sound_not_bad, ends_stands}

-- each range of each rule holds a number
pub record Sound (R : Rules) : Type 0 where
  pub ends : (i f : ℕ) → i < rules_in R → f < fields_of R → low_of R i f < ends_at R i f

module _ (R : Rules) where
  pub ends_sound : ends_fault R ≡ none → Sound R
  unfolding ends_fault bad_rule
  ends_sound = go (ltb (least (rules_in R) (bad R)) (rules_in R)) refl
    where
      go : (t : Bool) → ltb (least (rules_in R) (bad R)) (rules_in R) ≡ t
          → (pick t (refused_at LowAboveHigh (least (rules_in R) (bad R)) (least (fields_of R) (is_void R (least (rules_in R) (bad R))))) none) ≡ none
          → Sound R
      go true e z = absurd (not-none z)
      go false e z =
          let past = ltb-false (least (rules_in R) (bad R)) (rules_in R) e in
          record { ends = λ i f rule in_row. not-bad R i (least_under (bad R) (rules_in R) i (omega arith)) f in_row }

  -- no rule below i is bad where each is sound
  pub sound_answered : (i : ℕ) → i ≤ rules_in R → ((k : ℕ) → k < i → SoundRule R k) → Answered (bad R) false (rules_in R) i
  sound_answered i le sound = record { within = le; below = λ k lt. sound_not_bad R k (sound k lt) }

  pub sound_ends : Sound R → ends_fault R ≡ none
  sound_ends sound = sym (ends_stands R (rules_in R) (sound_answered (rules_in R) (omega arith) (λ i rule f. sound.ends i f rule)) (omega arith))

  pub list_shaped : list_fault R ≡ none → Shaped R
  list_shaped z = shaped R (shape_of R z)

  pub list_sound : list_fault R ≡ none → Sound R
  list_sound z = ends_sound (ends_of R z)

-- ---- none of 1 to 4 applies
-- d is 1 to 8, the length is n * d * 2, n is at most 1,024, and every range holds a number
pub record Accepted (R : Rules) : Type 0 where
  pub shape : Shaped R
  pub ranges : Sound R

module _ (R : Rules) where
  pub list_accepted : list_fault R ≡ none → Accepted R
  list_accepted z = record { shape = list_shaped R z; ranges = list_sound R z }

  pub shaped_none : Shaped R → shape_fault R ≡ none
  shaped_none s = shape_stands R s.some_fields s.few_fields (sym s.whole) s.few_rules

  pub accepted_none : Accepted R → list_fault R ≡ none
  accepted_none a = rw (shaped_none a.shape) (sound_ends R a.ranges)
