-- Laws of the refusal 4 (`specs/Faults.antt`): a range that holds no number, in a field, in a rule, in a list.
--     bad_yes, bad_no      a rule with such a field, and one without; `bad_field`: it then has a smallest
--     ends_4, ends_stands  the refusal, at the rule and field where the search for it ends, and none
--     not-bad, sound_not_bad      a rule without such a field holds a number in every range, and the other way round
-- Assumes nothing.
use Prim.Native.Nat.{ℕ, ◌≤◌, ◌<◌}
use mathlib.Core.Bool.{Bool, true, false, not}
use mathlib.Core.Path.{◌≡◌, refl, ap}
use native.Mathlib.Omega.{arith}
use lib.Dec.{ltb}
use Rattle.std.specs.Prelude.{Some, None}
use borrow.Author.Tests.{lt-ltb, le-ltb, lt-leb, ltb-true, leb-false, not-true, not-false}
use Rattle.ranges.specs.Numbers.{least}
use Rattle.ranges.specs.Refusals.{none, refused_at}
use Rattle.ranges.specs.declared.refusal.Cause.TheVariants.{LowAboveHigh}
use Rattle.ranges.proofs.Numbers.{true-not-false, all_yes, all_at, all_no, least_hit, least_under}
use Rattle.lists.specs.Rules.{Rules, fields_of, rules_in, low_of, ends_at, is_void}
use Rattle.lists.specs.Faults.{sound_rule, bad_rule, ends_fault}
use Rattle.lists.specs.Found.{found_below}
use Rattle.lists.proofs.Search.{Answered, answered-least, answered_end, found_is, found_none}

-- some range of rule i holds no number
abbrev pub bad : Rules → ℕ → Bool
bad R i = not (sound_rule R i)

-- the search for the rule's smallest such field
module _ (R : Rules) (i : ℕ) where
  pub bad_yes : {v : ℕ} → Some v ≡ found_below (fields_of R) (least (fields_of R) (is_void R i)) → bad R i ≡ true
  bad_yes {v} found =
      let is = found_is found in
      let void : is_void R i v ≡ true = rw is.0 (least_hit (is_void R i) (fields_of R) (rw is.0 at is.1)) in
      ap not (all_no (λ f. not (is_void R i f)) (fields_of R) v is.1 (ap not void))

  pub bad_no : None ≡ found_below (fields_of R) (least (fields_of R) (is_void R i)) → bad R i ≡ false
  bad_no found =
      let past = found_none found in
      ap not (all_yes (λ f. not (is_void R i f)) (fields_of R) (λ f lt. ap not (least_under (is_void R i) (fields_of R) f (omega arith))))

-- a rule with such a field has a smallest one
pub bad_field : (R : Rules) (i : ℕ) → bad R i ≡ true → least (fields_of R) (is_void R i) < fields_of R
bad_field R i is-bad = go (ltb (least (fields_of R) (is_void R i)) (fields_of R)) refl
  where
    go : (t : Bool) → ltb (least (fields_of R) (is_void R i)) (fields_of R) ≡ t → least (fields_of R) (is_void R i) < fields_of R
    go true e = ltb-true (least (fields_of R) (is_void R i)) (fields_of R) e
    go false e = absurd (true-not-false is-bad (bad_no R i (rw e)))

-- the rules below i have no such field
module _ (R : Rules) (i : ℕ) (told : Answered (bad R) false (rules_in R) i) where
  -- rule i has one, v
  pub ends_4 : {v : ℕ} → Some v ≡ found_below (fields_of R) (least (fields_of R) (is_void R i)) → i < rules_in R
      → refused_at LowAboveHigh i v ≡ ends_fault R
  unfolding ends_fault bad_rule
  ends_4 found lt =
      let here = answered-least told lt refl (bad_yes R i found) in
      rw (← here, lt-ltb i (rules_in R) lt, (found_is found).0)

  -- there is no rule i
  pub ends_stands : rules_in R ≤ i → none ≡ ends_fault R
  unfolding ends_fault bad_rule
  ends_stands past =
      let n = rules_in R in
      let no-bad = answered_end told past in
      rw (← no-bad, le-ltb n n (omega arith))

-- ---- what the refusal, or its absence, says of the ranges
-- every range of rule i holds a number
abbrev pub SoundRule : Rules → ℕ → Type 0
SoundRule R i = (f : ℕ) → f < fields_of R → low_of R i f < ends_at R i f

pub not-bad : (R : Rules) (i : ℕ) → bad R i ≡ false → SoundRule R i
not-bad R i e f lt =
    let no-void = all_at (λ g. not (is_void R i g)) (fields_of R) (not-false (sound_rule R i) e) f lt in
    leb-false (ends_at R i f) (low_of R i f) (not-true (is_void R i f) no-void)

pub sound_not_bad : (R : Rules) (i : ℕ) → SoundRule R i → bad R i ≡ false
sound_not_bad R i sound =
    ap not (all_yes (λ f. not (is_void R i f)) (fields_of R) (λ f lt. ap not (lt-leb (ends_at R i f) (low_of R i f) (sound f lt))))
