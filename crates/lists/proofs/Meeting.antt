-- Laws of rules that meet (`specs/Independence.antt`): in a field, in every field, and the search for a pair that does.
--     sought_none, sought_more      the search for a rule's partner: where it begins, and after a turn
--     sought_met, sought_end        its ways out
--     pair_both, pair_none          the ways out of the search for a pair
--     fits-meet, meet-fits          two rules without a void range meet exactly when one header fits both
--     shared_header                  that header: eight numbers, bounded by what bounds the list's (`shared_length`, `shared_below`)
-- Assumes nothing.
use Prim.Native.Nat.{ℕ, max, ◌+◌, ◌≤◌, ◌<◌}
use mathlib.Core.Bool.{Bool, true, false}
use mathlib.Core.List.{List}
use mathlib.Core.Path.{◌≡◌, refl}
use native.Mathlib.Omega.{arith}
use lib.ListN.{length, get_or}
use lib.Dec.{ltb}
use Rattle.std.specs.Prelude.{Some, None}
use native.Mathlib.Nat.{le-max_left, le-max_right}
use borrow.Author.Tests.{lt-ltb, le-ltb, ltb-true}
use Rattle.ranges.specs.Numbers.{tab}
use Rattle.ranges.proofs.Numbers.{and_left, and_right, and_both, all_yes, all_at, tab-length, tab_at}
use Rattle.lists.specs.Rules.{Rules, fields_of, rules_in, offset_of, low_of, ends_at}
use Rattle.lists.specs.Headers.{header_length}
use Rattle.lists.specs.FirstMatch.{fits}
use Rattle.lists.specs.Independence.{meet_at, meet, partners, partner_of, has_partner, paired, pair_of}
use Rattle.lists.specs.Found.{found_below}
use Rattle.lists.proofs.Search.{Answered, answered_more, answered-least, answered_end, answered_found, answered_nothing, found_is}
use Rattle.lists.proofs.Voids.{SoundRule}
use Rattle.lists.proofs.Fitting.{Inside, fits_inside, inside_fits}

-- ---- the search for a partner of rule i: no rule below j is one, and j comes after i
pub record Sought (R : Rules) (i j : ℕ) : Type 0 where
  pub after : i < j
  pub told : Answered (partners R i) false (rules_in R) j

module _ (R : Rules) (i : ℕ) where
  pub sought_none : i < rules_in R → Sought R i (i + 1)
  sought_none lt =
      record {
        after = omega arith;
        told =
            record {
              within = omega arith;
              below = λ k under. let not_after : k ≤ i = omega arith in rw (le-ltb i k not_after);
            };
      }

  -- a rule after i is its partner exactly when it meets it
  after_i : (j : ℕ) (r : Bool) → Sought R i j → r ≡ meet R i j → r ≡ partners R i j
  after_i j r s is_r = rw (lt-ltb i j s.after) is_r

  pub sought_more : {j : ℕ} → Sought R i j → j < rules_in R → {r : Bool} → r ≡ meet R i j → r ≡ false → Sought R i (j + 1)
  sought_more {j} s lt {r} is_r apart = record { after = omega (arith, s.after); told = answered_more s.told lt (after_i j r s is_r) apart }

  pub sought_met : {j : ℕ} → Sought R i j → j < rules_in R → {r : Bool} → r ≡ meet R i j → r ≡ true → Some j ≡ found_below (rules_in R) (partner_of R i)
  unfolding partner_of
  sought_met {j} s lt {r} is_r met = answered_found s.told lt (after_i j r s is_r) met

  pub sought_end : {j : ℕ} → Sought R i j → rules_in R ≤ j → None ≡ found_below (rules_in R) (partner_of R i)
  unfolding partner_of
  sought_end s past = answered_nothing s.told past

-- ---- the search for a pair: no rule below i has a partner
module _ (R : Rules) (i : ℕ) (told : Answered (has_partner R) false (rules_in R) i) where
  pub pair_both : {j : ℕ} → Some j ≡ found_below (rules_in R) (partner_of R i) → i < rules_in R → Some (i, j) ≡ pair_of R
  unfolding paired
  pair_both found lt =
      let is = found_is found in
      let has : has_partner R i ≡ true = lt-ltb (partner_of R i) (rules_in R) (rw is.0 at is.1) in
      let here = answered-least told lt refl has in
      rw (← here, lt-ltb i (rules_in R) lt, is.0)

  pub pair_none : rules_in R ≤ i → None ≡ pair_of R
  unfolding paired
  pair_none past =
      let n = rules_in R in
      let no-pair = answered_end told past in
      rw (← no-pair, le-ltb n n (omega arith))

-- ---- two rules meet exactly when one header fits both
module _ (R : Rules) (i j : ℕ) where
  -- a header's number in a field that both rules fit is a number of both ranges
  pub fits-meet : (h : List ℕ) → fits R h i ≡ true → fits R h j ≡ true → meet R i j ≡ true
  unfolding meet
  fits-meet h fits-i fits-j =
      all_yes (meet_at R i j) (fields_of R)
      (λ f lt.
      let in-i : Inside R h i f = fits_inside R h i fits-i f lt in
      let in-j : Inside R h j f = fits_inside R h j fits-j f lt in
      let i-before : low_of R i f < ends_at R j f = omega (arith, in-i.0, in-j.1) in
      let j-before : low_of R j f < ends_at R i f = omega (arith, in-j.0, in-i.1) in
      and_both (ltb (low_of R i f) (ends_at R j f)) (ltb (low_of R j f) (ends_at R i f)) (lt-ltb (low_of R i f) (ends_at R j f) i-before)
      (lt-ltb (low_of R j f) (ends_at R i f) j-before))

-- the header whose numbers are the greater of the two lows, field by field
unfoldable pub shared_header : Rules → ℕ → ℕ → List ℕ
shared_header R i j = tab header_length (λ f. max (low_of R i f) (low_of R j f))

module _ (R : Rules) (i j : ℕ) where
  shared_at : (f : ℕ) → f < header_length → get_or (shared_header R i j) f 0 ≡ max (low_of R i f) (low_of R j f)
  unfolding shared_header
  shared_at f lt = tab_at (λ g. max (low_of R i g) (low_of R j g)) header_length f lt

  pub shared_length : length (shared_header R i j) ≡ header_length
  unfolding shared_header
  shared_length = tab-length (λ f. max (low_of R i f) (low_of R j f)) header_length

  -- what is above all of the list's numbers is above the header's
  pub shared_below : (k : ℕ) → ((m : ℕ) → get_or R.numbers m 0 < k) → (f : ℕ) → f < header_length → get_or (shared_header R i j) f 0 < k
  unfolding low_of
  shared_below k below f lt = rw (shared_at f lt) (omega (arith, below (offset_of (fields_of R) i f), below (offset_of (fields_of R) j f)))

module _ (R : Rules) (i j : ℕ) (few : fields_of R ≤ header_length) (sound-i : SoundRule R i) (sound-j : SoundRule R j) (met : meet R i j ≡ true) where
  -- each of the two ends is past both lows
  past_lows : (f : ℕ) → f < fields_of R → (max (low_of R i f) (low_of R j f) < ends_at R i f) × (max (low_of R i f) (low_of R j f) < ends_at R j f)
  unfolding meet
  past_lows f lt =
      let i-test = ltb (low_of R i f) (ends_at R j f) in
      let j-test = ltb (low_of R j f) (ends_at R i f) in
      let here = all_at (meet_at R i j) (fields_of R) met f lt in
      let i-before = ltb-true (low_of R i f) (ends_at R j f) (and_left i-test j-test here) in
      let j-before = ltb-true (low_of R j f) (ends_at R i f) (and_right i-test j-test here) in
      (omega (arith, sound-i f lt), omega (arith, sound-j f lt))

  at_field : (f : ℕ) → f < fields_of R → get_or (shared_header R i j) f 0 ≡ max (low_of R i f) (low_of R j f)
  at_field f lt = shared_at R i j f (omega arith)

  pub meet-fits : (fits R (shared_header R i j) i ≡ true) × (fits R (shared_header R i j) j ≡ true)
  meet-fits = (
    inside_fits R (shared_header R i j) i (λ f lt. rw (at_field f lt) (le-max_left (low_of R i f) (low_of R j f), (past_lows f lt).0)),
    inside_fits R (shared_header R i j) j (λ f lt. rw (at_field f lt) (le-max_right (low_of R i f) (low_of R j f), (past_lows f lt).1)),
  )
