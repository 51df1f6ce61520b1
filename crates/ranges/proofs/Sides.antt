-- Laws of the first number past a range and of the range test (`specs/Sides.antt`).
--     past_high, within_high, high_within       the code's tests on high, as facts on the first number past the range
--     past_date, past_other, past_near          the first number past a rule's range, of dates or not, and either way
--     past_one                                  highs of one kind of field are equal exactly when their ends are
--     void_when                                 when a rule's range holds no number
--     side_below, side_above, side_inside       which outcome a number has
--     Lies, lies                                the three outcomes, with the facts that lead to each
--     is_below, is_above, is_inside_lem             what an outcome says of the number
--     inside_yes, inside_at_lem                     the outcome as a test
-- Assumes nothing.
use Prim.Native.Nat.{ℕ, ◌+◌, ◌≤◌, ◌<◌}
use mathlib.Core.Bool.{Bool, true, false}
use mathlib.Core.Logic.{◌↔◌}
use mathlib.Core.Path.{◌≡◌, refl, ap}
use native.Mathlib.Omega.{arith}
use borrow.Author.Tests.{lt-ltb, le-ltb, le-leb, leb-true}
use lib.Dec.{ltb}
use Rattle.ranges.specs.Numbers.{pick}
use Rattle.ranges.proofs.Numbers.{never}
use Rattle.ranges.specs.Sides.{end_of, past_of, side_in, side_of, void_of, meet_of, is_inside}
use Rattle.ranges.specs.declared.side.Side.{Side}
use Rattle.ranges.specs.declared.side.Side.TheVariants.{Below, Above, Inside}
use Rattle.ranges.specs.declared.spot.Spot.{Spot}
use Rattle.ranges.proofs.Spots.{Sits, sits_below, sits_above, sits_both, sits_low, sits_high, sits_between, spot_is, sits}

-- ---- the first number past a range
module _ (high x : ℕ) where
  pub past_high : high < x → end_of high ≤ x
  unfolding end_of
  past_high lt = omega arith

  pub within_high : x ≤ high → x < end_of high
  unfolding end_of
  within_high le = omega arith

  pub high_within : x < end_of high → x ≤ high
  unfolding end_of
  high_within lt = omega arith

-- ---- the first number past a rule's range
pub past_date : (high : ℕ) → past_of true high ≡ high
unfolding past_of
past_date high = refl

pub past_other : (high : ℕ) → past_of false high ≡ end_of high
unfolding past_of
past_other high = refl

-- high or the number after it
pub past_near : (date : Bool) (high : ℕ) → (high ≤ past_of date high) × (past_of date high ≤ high + 1)
unfolding past_of end_of
past_near true high = (omega arith, omega arith)
past_near false high = (omega arith, omega arith)

-- of one kind of field, ends are the same where highs are, and only there
pub past_one : (date : Bool) (high high' : ℕ) → (past_of date high ≡ past_of date high') ↔ (high ≡ high')
unfolding past_of end_of
past_one true high high' = (λ e. e, λ e. e)
past_one false high high' = (λ e. omega arith, λ e. omega arith)

-- a rule's range holds no number: of dates where high is at most low, else where it is less
abbrev pub NoNumber : Bool → ℕ → ℕ → Type 0
NoNumber date low high = pick date (high ≤ low) (high < low)

pub void_when : (date : Bool) (low high : ℕ) → (void_of low (past_of date high) ≡ true) ↔ NoNumber date low high
unfolding past_of end_of
void_when true low high = (λ e. leb-true high low e, λ le. le-leb high low le)
void_when false low high =
    (λ e. let le = leb-true (high + 1) low e in omega arith, λ lt. let le : high + 1 ≤ low = omega arith in le-leb (high + 1) low le)

-- ---- which outcome a number has
-- a spot inside the range is on its inside
inside_in : {low past x : ℕ} {s : Spot} → Sits low past x s → low ≤ x → x < past → side_in s ≡ Inside
inside_in (sits_below lt) le within = absurd (omega arith)
inside_in (sits_above le over) le' within = absurd (omega arith)
inside_in (sits_both at last) le within = refl
inside_in (sits_low at more) le within = refl
inside_in (sits_high over last) le within = refl
inside_in (sits_between over more) le within = refl

module _ (low past x : ℕ) where
  -- a number less than low is below, whatever past is
  pub side_below : x < low → side_of low past x ≡ Below
  unfolding side_of
  side_below lt = ap side_in (spot_is (sits_below lt))

  pub side_above : low ≤ x → past ≤ x → side_of low past x ≡ Above
  unfolding side_of
  side_above le over = ap side_in (spot_is (sits_above le over))

  pub side_inside : low ≤ x → x < past → side_of low past x ≡ Inside
  unfolding side_of
  side_inside = inside_in (sits low past x)

-- ---- what an outcome says of the number
-- the three outcomes, with the facts that lead to each
pub data Lies (low past x : ℕ) : Side → Type 0 where
  lies_below : x < low → Lies low past x Below
  lies_above : low ≤ x → past ≤ x → Lies low past x Above
  lies_inside : low ≤ x → x < past → Lies low past x Inside

lies_in : {low past x : ℕ} {s : Spot} → Sits low past x s → Lies low past x (side_in s)
lies_in (sits_below lt) = lies_below lt
lies_in (sits_above le over) = lies_above le over
lies_in (sits_both at last) = lies_inside (omega arith) (omega arith)
lies_in (sits_low at more) = lies_inside (omega arith) (omega arith)
lies_in (sits_high over last) = lies_inside (omega arith) (omega arith)
lies_in (sits_between over more) = lies_inside (omega arith) (omega arith)

module _ (low past x : ℕ) where
  pub lies : Lies low past x (side_of low past x)
  unfolding side_of
  lies = lies_in (sits low past x)

of_below : {low past x : ℕ} {s : Side} → Lies low past x s → s ≡ Below → x < low
of_below (lies_below lt) e = lt
of_below (lies_above le over) e = never (cc)
of_below (lies_inside le within) e = never (cc)

of_above : {low past x : ℕ} {s : Side} → Lies low past x s → s ≡ Above → past ≤ x
of_above (lies_below lt) e = never (cc)
of_above (lies_above le over) e = over
of_above (lies_inside le within) e = never (cc)

of_inside : {low past x : ℕ} {s : Side} → Lies low past x s → s ≡ Inside → (low ≤ x) × (x < past)
of_inside (lies_below lt) e = never (cc)
of_inside (lies_above le over) e = never (cc)
of_inside (lies_inside le within) e = (le, within)

inside_is : (s : Side) → is_inside s ≡ true → s ≡ Inside
inside_is Below e = never (cc)
inside_is Above e = never (cc)
inside_is Inside e = refl

module _ (low past x : ℕ) where
  pub is_below : side_of low past x ≡ Below → x < low
  is_below = of_below (lies low past x)

  pub is_above : side_of low past x ≡ Above → past ≤ x
  is_above = of_above (lies low past x)

  pub is_inside_lem : side_of low past x ≡ Inside → (low ≤ x) × (x < past)
  is_inside_lem = of_inside (lies low past x)

  pub inside_yes : low ≤ x → x < past → is_inside (side_of low past x) ≡ true
  inside_yes le within = ap is_inside (side_inside low past x le within)

  pub inside_at_lem : is_inside (side_of low past x) ≡ true → (low ≤ x) × (x < past)
  inside_at_lem e = is_inside_lem (inside_is (side_of low past x) e)

-- ---- the code's tests of meeting
module _ (low past low' past' : ℕ) where
  pub meets-not : past' ≤ low → false ≡ meet_of low past low' past'
  meets-not over = rw (le-ltb low past' over)

  pub meets-by : low < past' → ltb low' past ≡ meet_of low past low' past'
  meets-by before = rw (lt-ltb low past' before)
