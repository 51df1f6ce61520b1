-- Laws of the refusals of a range (`specs/Blocks.antt`): which one it meets, from the tests that lead there, and what a range is that
-- meets none of 9 and 11.
--     range_9_few, range_9_many, range_11_order, range_11_high, range_stands     9, 11, and neither
--     ranged                                                                     a range that meets neither
--     expand_refused, expand_12, expand_is                                       the whole answer, and the run afterwards
-- Assumes nothing.
use Prim.Native.Nat.{ℕ, ◌*◌, ◌/◌, ◌^◌, ◌≤◌, ◌<◌}
use mathlib.Core.Bool.{Bool, true, false}
use mathlib.Core.List.{List}
use mathlib.Core.Path.{◌≡◌, refl, sym, ap}
use native.Mathlib.Omega.{arith}
use Rattle.std.specs.Prelude.{Ok, Err}
use lib.ListN.{length}
use lib.Dec.{ltb, leb}
use borrow.Author.Tests.{lt-ltb, le-ltb, le-leb, lt-leb, ltb-false, leb-false}
use Rattle.ranges.specs.Numbers.{pick, ◌or◌}
use Rattle.ranges.specs.Sides.{end_of}
use Rattle.ranges.specs.Refusals.{Refusal, none, refused, refused_at, BadWidth, BadRange, TooLittleRoom}
use Rattle.ranges.specs.Blocks.{Ranged, bad_range, prefixes_of, range_fault, expand_of, run_after, written}
use Rattle.ranges.proofs.InARow.{not-none}
use Rattle.ranges.proofs.Sides.{past_high, within_high}

-- ---- 9, 11
module _ (w low high : ℕ) where
  pub range_9_few : w < 1 → range_fault w low high ≡ refused BadWidth
  unfolding range_fault
  range_9_few few = rw (lt-ltb w 1 few)

  pub range_9_many : 1 ≤ w → 32 < w → range_fault w low high ≡ refused BadWidth
  unfolding range_fault
  range_9_many some many = rw (le-ltb w 1 some, lt-ltb 32 w many)

-- past 9
module _ (w low high : ℕ) (some : 1 ≤ w) (few : w ≤ 32) where
  at_11 : range_fault w low high ≡ pick (bad_range w low high) (refused BadRange) none
  unfolding range_fault
  at_11 = rw (le-ltb w 1 some, le-ltb 32 w few)

  pub range_11_order : high < low → range_fault w low high ≡ refused BadRange
  range_11_order void = rw (at_11, le-leb (end_of high) low (past_high high low void))

  pub range_11_high : low ≤ high → 2 ^ w ≤ high → range_fault w low high ≡ refused BadRange
  range_11_high le wide = rw (at_11, lt-leb (end_of high) low (within_high high low le), le-leb (2 ^ w) high wide)

  pub range_stands : low ≤ high → high < 2 ^ w → range_fault w low high ≡ none
  range_stands le narrow = rw (at_11, lt-leb (end_of high) low (within_high high low le), lt-leb (2 ^ w) high narrow)

-- a range that meets neither
pub ranged : (w low high : ℕ) → range_fault w low high ≡ none → Ranged w low high
unfolding range_fault
ranged w low high = go (ltb w 1) (ltb 32 w) (leb (end_of high) low) (leb (2 ^ w) high) refl refl refl refl
  where
    go : (a b e g : Bool) → ltb w 1 ≡ a → ltb 32 w ≡ b → leb (end_of high) low ≡ e → leb (2 ^ w) high ≡ g
        → pick (a or b) (refused BadWidth) (pick (e or g) (refused BadRange) none) ≡ none
        → Ranged w low high
    go true b e g p q r s z = absurd (not-none z)
    go false true e g p q r s z = absurd (not-none z)
    go false false true g p q r s z = absurd (not-none z)
    go false false false true p q r s z = absurd (not-none z)
    go false false false false p q r s z =
        record {
          some_bits = ltb-false w 1 p;
          few_bits = ltb-false 32 w q;
          ordered = leb-false (end_of high) low r;
          narrow = leb-false (2 ^ w) high s;
        }

-- ---- the whole answer, where 9 or 11 applies
module _ (w low high : ℕ) (run : List ℕ) {x : Refusal} (is_x : Err x ≡ range_fault w low high) where
  pub expand_refused : (Err x ≡ expand_of w low high run) × (run ≡ run_after w low high run)
  expand_refused = (rw (← is_x), rw (← is_x))

-- ---- and where neither does, of m prefixes that are needed
module _ (w low high : ℕ) (run : List ℕ) (fits : none ≡ range_fault w low high) where
  pub expand_ranged : Ranged w low high
  expand_ranged = ranged w low high (sym fits)

  module _ (m : ℕ) (is_m : m ≡ length (prefixes_of w low high)) where
    pub expand_12 : length run / 2 < m → (refused_at TooLittleRoom m 0 ≡ expand_of w low high run) × (run ≡ run_after w low high run)
    expand_12 short =
        let short' : ltb (length run / 2) (length (prefixes_of w low high)) ≡ true = lt-ltb _ _ (rw is_m at short) in
        (rw (← fits, short') (ap (λ k. refused_at TooLittleRoom k 0) is_m), rw (← fits, short'))

    pub expand_room : m ≤ length run / 2 → length (prefixes_of w low high) * 2 ≤ length run
    expand_room enough = omega (arith, is_m)

    pub expand_is : m ≤ length run / 2 → (Ok m ≡ expand_of w low high run) × (written (prefixes_of w low high) run ≡ run_after w low high run)
    expand_is enough =
        let room : ltb (length run / 2) (length (prefixes_of w low high)) ≡ false = le-ltb _ _ (rw is_m at enough) in
        (rw (← fits, room) (ap Ok is_m), rw (← fits, room))
