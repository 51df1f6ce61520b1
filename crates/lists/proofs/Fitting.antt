-- Laws of what fits a header (`specs/FirstMatch.antt`, `specs/Scan.antt`): a field, a rule, and which rule is the first.
--     outcome_read                          the outcome of any test of one field, as the code works it out
--     side_read                             the same of the range test
--     below_read, above_read, within-read   the same where each end is asked by itself
--     fits_inside, inside_fits              what it means that a rule fits, either way round
--     fits_same, first_same                 only the first d numbers of a header are read
-- Assumes nothing.
use Prim.Native.Nat.{ℕ, ◌≤◌, ◌<◌}
use mathlib.Core.Bool.{Bool, true, false}
use mathlib.Core.List.{List}
use mathlib.Core.Path.{◌≡◌, sym, ap, ◌∙◌}
use lib.ListN.{get_or}
use lib.Dec.{ltb, leb}
use borrow.Author.Tests.{ltb-true, ltb-false, leb-true, leb-false}
use Rattle.ranges.specs.Sides.{side_of, is_inside}
use Rattle.ranges.specs.declared.side.Range.{Range}
use Rattle.ranges.specs.declared.side.Side.{Side}
use Rattle.ranges.specs.declared.side.Side.TheVariants.{Below, Above, Inside as InsideIt}
use Rattle.ranges.proofs.Numbers.{all_yes, all_at, all_same, least_same}
use Rattle.ranges.proofs.Sides.{side_below, side_above, side_inside, inside_yes, inside_at_lem}
use Rattle.lists.specs.Rules.{Rules, fields_of, rules_in, low_of, ends_at, range_at}
use Rattle.lists.specs.FirstMatch.{side_at, inside_at, fits, first_match}

-- the outcome of a test of the number against a range, where a callee said that it is the rule's
pub outcome_read : {A : Type 0} (test : ℕ → ℕ → ℕ → A) (R : Rules) (h : List ℕ) (i f : ℕ) (g : Range) → g ≡ range_at R i f → (s : A)
    → s ≡ test g.low g.past (get_or h f 0) → s ≡ test (low_of R i f) (ends_at R i f) (get_or h f 0)
outcome_read test R h i f g is-range s is-s = is-s ∙ ap (λ k. test k.low k.past (get_or h f 0)) is-range

module _ (R : Rules) (h : List ℕ) (i f : ℕ) (g : Range) (is-range : g ≡ range_at R i f) where
  pub side_read : (s : Side) → s ≡ side_of g.low g.past (get_or h f 0) → s ≡ side_at R h i f
  side_read = outcome_read side_of R h i f g is-range

  -- each end asked by itself: t is a callee's answer whether the number is below, and u whether it is past
  module _ (t : Bool) (is-t : t ≡ ltb (get_or h f 0) g.low) where
    pub below_read : t ≡ true → Below ≡ side_at R h i f
    below_read below = side_read Below (sym (side_below g.low g.past (get_or h f 0) (ltb-true (get_or h f 0) g.low (sym is-t ∙ below))))

    module _ (over : t ≡ false) (u : Bool) (is-u : u ≡ leb g.past (get_or h f 0)) where
      from_low : g.low ≤ get_or h f 0
      from_low = ltb-false (get_or h f 0) g.low (sym is-t ∙ over)

      pub above_read : u ≡ true → Above ≡ side_at R h i f
      above_read past = side_read Above (sym (side_above g.low g.past (get_or h f 0) from_low (leb-true g.past (get_or h f 0) (sym is-u ∙ past))))

      pub within-read : u ≡ false → InsideIt ≡ side_at R h i f
      within-read before = side_read InsideIt (sym (side_inside g.low g.past (get_or h f 0) from_low (leb-false g.past (get_or h f 0) (sym is-u ∙ before))))

-- ---- what it means that a rule fits
-- low ≤ number, and the number is before the first one past the range
abbrev pub Inside : Rules → List ℕ → ℕ → ℕ → Type 0
Inside R h i f = (low_of R i f ≤ get_or h f 0) × (get_or h f 0 < ends_at R i f)

module _ (R : Rules) (h : List ℕ) (i : ℕ) where
  pub fits_inside : fits R h i ≡ true → (f : ℕ) → f < fields_of R → Inside R h i f
  unfolding fits
  fits_inside e f lt = inside_at_lem (low_of R i f) (ends_at R i f) (get_or h f 0) (all_at (inside_at R h i) (fields_of R) e f lt)

  pub inside_fits : ((f : ℕ) → f < fields_of R → Inside R h i f) → fits R h i ≡ true
  unfolding fits
  inside_fits at =
      all_yes (inside_at R h i) (fields_of R) (λ f lt. inside_yes (low_of R i f) (ends_at R i f) (get_or h f 0) (at f lt).0 (at f lt).1)

-- ---- only the first d numbers of a header are read
module _ (R : Rules) (h g : List ℕ) (agree : (f : ℕ) → f < fields_of R → get_or h f 0 ≡ get_or g f 0) where
  pub fits_same : (i : ℕ) → fits R h i ≡ fits R g i
  unfolding fits
  fits_same i =
      all_same (inside_at R h i) (inside_at R g i) (fields_of R) (λ f lt. ap (λ x. is_inside (side_of (low_of R i f) (ends_at R i f) x)) (agree f lt))

  pub first_same : first_match R h ≡ first_match R g
  unfolding first_match
  first_same = least_same (fits R h) (fits R g) (rules_in R) (λ i lt. fits_same i)
