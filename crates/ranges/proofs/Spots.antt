-- Laws of the single range test (`specs/Spots.antt`).
--     Sits                  the six outcomes, with the facts that lead to each
--     spot_is, sits         the facts of an outcome give it; the outcome has its facts. So exactly one of the six holds
--     Edge, end_iff         at an end, as a test and as facts
--     both_ends_iff         at both ends, likewise
-- Assumes nothing.
use Prim.Native.Nat.{ℕ, ◌+◌, ◌≤◌, ◌<◌}
use mathlib.Core.Bool.{Bool, true, false}
use mathlib.Core.Logic.{◌⊎◌, inl, inr, ⊎_elim, ◌↔◌}
use mathlib.Core.Path.{◌≡◌, refl, ◌∙◌}
use native.Mathlib.Omega.{arith}
use borrow.Author.Tests.{lt-ltb, le-ltb, le-leb, lt-leb, eq-eqb, ne_eqb, ltb-true, ltb-false, leb-true, leb-false, eqb-true, eqb-false}
use lib.Dec.{ltb, leb, eqb}
use Rattle.ranges.specs.Numbers.{pick}
use Rattle.ranges.specs.Spots.{spot_inside, spot_of, at_end}
use Rattle.ranges.specs.declared.spot.Spot.{Spot}
use Rattle.ranges.specs.declared.spot.Spot.TheVariants.{Below, AtLow, Between, AtHigh, AtBoth, Above}
use Rattle.ranges.proofs.Numbers.{never}

-- the six outcomes, with the facts that lead to each; the last number of a range is the one before past
pub data Sits (low past x : ℕ) : Spot → Type 0 where
  sits_below : x < low → Sits low past x Below
  sits_above : low ≤ x → past ≤ x → Sits low past x Above
  sits_both : x ≡ low → x + 1 ≡ past → Sits low past x AtBoth
  sits_low : x ≡ low → x + 1 < past → Sits low past x AtLow
  sits_high : low < x → x + 1 ≡ past → Sits low past x AtHigh
  sits_between : low < x → x + 1 < past → Sits low past x Between

-- ---- which outcome a number has
spot_inside_lem : (low past x : ℕ) → low ≤ x → x < past → spot_of low past x ≡ spot_inside (eqb x low) (eqb (x + 1) past)
unfolding spot_of
spot_inside_lem low past x le within = rw (le-ltb x low le, lt-leb past x within)

pub spot_is : {low past x : ℕ} {s : Spot} → Sits low past x s → spot_of low past x ≡ s
unfolding spot_of
spot_is {low} {past} {x} (sits_below lt) = rw (lt-ltb x low lt)
spot_is {low} {past} {x} (sits_above le over) = rw (le-ltb x low le, le-leb past x over)
spot_is {low} {past} {x} (sits_both at last) =
    spot_inside_lem low past x (omega arith) (omega arith) ∙ rw (eq-eqb x low at, eq-eqb (x + 1) past last)
spot_is {low} {past} {x} (sits_low at more) =
    let unlike = ne_eqb (x + 1) past (λ e. omega arith) in
    spot_inside_lem low past x (omega arith) (omega arith) ∙ rw (eq-eqb x low at, unlike)
spot_is {low} {past} {x} (sits_high over last) =
    let unlike = ne_eqb x low (λ e. omega arith) in
    spot_inside_lem low past x (omega arith) (omega arith) ∙ rw (unlike, eq-eqb (x + 1) past last)
spot_is {low} {past} {x} (sits_between over more) =
    let unlike = ne_eqb x low (λ e. omega arith) in
    let unlike' = ne_eqb (x + 1) past (λ e. omega arith) in
    spot_inside_lem low past x (omega arith) (omega arith) ∙ rw (unlike, unlike')

-- ---- what an outcome says of the number
module _ (low past x : ℕ) where
  -- inside, by whether x is low and whether it is the last number
  sits_in : low ≤ x → x < past → (s t : Bool) → eqb x low ≡ s → eqb (x + 1) past ≡ t
      → Sits low past x (spot_inside s t)
  sits_in le within true true p q = sits_both (eqb-true x low p) (eqb-true (x + 1) past q)
  sits_in le within true false p q =
      let unlike = eqb-false (x + 1) past q in
      sits_low (eqb-true x low p) (omega arith)
  sits_in le within false true p q =
      let unlike = eqb-false x low p in
      sits_high (omega arith) (eqb-true (x + 1) past q)
  sits_in le within false false p q =
      let unlike = eqb-false x low p in
      let unlike' = eqb-false (x + 1) past q in
      sits_between (omega arith) (omega arith)

  pub sits : Sits low past x (spot_of low past x)
  unfolding spot_of
  sits = go (ltb x low) (leb past x) refl refl
    where
      go : (s t : Bool) → ltb x low ≡ s → leb past x ≡ t
          → Sits low past x (pick s Below (pick t Above (spot_inside (eqb x low) (eqb (x + 1) past))))
      go true t p q = sits_below (ltb-true x low p)
      go false true p q = sits_above (ltb-false x low p) (leb-true past x q)
      go false false p q = sits_in (ltb-false x low p) (leb-false past x q) (eqb x low) (eqb (x + 1) past) refl refl

-- x is inside, and low or the last number
pub record Edge (low past x : ℕ) : Type 0 where
  pub from_low : low ≤ x
  pub to_past : x < past
  pub end : (x ≡ low) ⊎ (x + 1 ≡ past)

edge_of : {low past x : ℕ} {s : Spot} → Sits low past x s → at_end s ≡ true → Edge low past x
edge_of (sits_below lt) e = never (cc)
edge_of (sits_above le over) e = never (cc)
edge_of (sits_both at last) e = record { from_low = omega arith; to_past = omega arith; end = inl at }
edge_of (sits_low at more) e = record { from_low = omega arith; to_past = omega arith; end = inl at }
edge_of (sits_high over last) e = record { from_low = omega arith; to_past = omega arith; end = inr last }
edge_of (sits_between over more) e = never (cc)

of_edge : {low past x : ℕ} {s : Spot} → Sits low past x s → Edge low past x → at_end s ≡ true
of_edge (sits_below lt) at = absurd (omega (arith, at.from_low))
of_edge (sits_above le over) at = absurd (omega (arith, at.to_past))
of_edge (sits_both here last) at = refl
of_edge (sits_low here more) at = refl
of_edge (sits_high over last) at = refl
of_edge (sits_between over more) at = absurd (⊎_elim (λ here. omega arith) (λ last. omega arith) at.end)

module _ (low past x : ℕ) where
  -- a number at an end is inside, and low or the last number of the range
  pub end_iff : (at_end (spot_of low past x) ≡ true) ↔ Edge low past x
  end_iff = (edge_of (sits low past x), of_edge (sits low past x))

  pub both_ends_iff : (spot_of low past x ≡ AtBoth) ↔ ((x ≡ low) × (x + 1 ≡ past))
  both_ends_iff = (of_both (sits low past x), λ one. spot_is (sits_both one.0 one.1))
    where
      of_both : {s : Spot} → Sits low past x s → s ≡ AtBoth → (x ≡ low) × (x + 1 ≡ past)
      of_both (sits_below lt) e = never (cc)
      of_both (sits_above le over) e = never (cc)
      of_both (sits_both at last) e = (at, last)
      of_both (sits_low at more) e = never (cc)
      of_both (sits_high over last) e = never (cc)
      of_both (sits_between over more) e = never (cc)
