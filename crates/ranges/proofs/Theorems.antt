-- The headline statements of layer 1, in the order of DESIGN's list. What the functions return is their contract; these say what that means.
--         refuse_says              a refusal as it is made has the cause or the number that was given, whatever that is, and place 0
--     T1  prefix_holds             the range of a prefix is the numbers that agree with it in its first bits
--         prefix_stands            a prefix that meets neither 9 nor 10 has this range
--         prefix_9_iff             a prefix is refused by 9 exactly when the width is not 1 to 32
--         prefix_10_iff            by 10 exactly when the width is 1 to 32, and the length > width, the value needs more than width bits, or a
--                                  bit below the prefix is set
--     T2  run_kept                 a refusal leaves the run as lent
--         run_past                 numbers past the last pair stay
--     T3  covers_once              each number of a range lies in exactly one of its prefixes
--         covers_no_other          no other number lies in any
--         turn_back                each prefix turns back into its block
--         blocks_are_largest       each block is the largest aligned one that stays in the range
--     T4  at_most_2w_2_prefixes    at most 2w - 2 prefixes for w ≥ 2
--         one_prefix_at_width_1    exactly one for w = 1
--     T5  side_says                the three outcomes of the range test, and what each says
--     W2  spot_says                the six outcomes that tell a number at an end from one between, and what each says
--         spot_one                 what one of them says holds of no number that has another
--         both_iff                 at both ends exactly when low, the number and the last number of the range are one
--     W8  due_day_is_past          a rule's dates do not hold its high, the due day
--         last_day_is_inside       they hold the day before it, which is an end
--         top_in_no_date           no rule's dates hold 4294967295
--         void_iff                 a rule's range holds no number exactly when low > high, of dates when low ≥ high
-- Assumes nothing.
use Prim.Native.Nat.{ℕ, ◌+◌, ◌-◌, ◌*◌, ◌/◌, ◌%◌, ◌^◌, ◌≤◌, ◌<◌}
use mathlib.Core.Bool.{Bool, true}
use mathlib.Core.List.{List, ◌++◌}
use mathlib.Core.Logic.{⊎_elim, ◌⊎◌, inr, ◌↔◌}
use mathlib.Core.Path.{◌≡◌, refl, sym, ap, ◌∙◌}
use native.Mathlib.Omega.{arith}
use native.Mathlib.Nat.{div-add-mod', mod-lt}
use lib.ListN.{length, get_or, drop}
use lib.Arith.{digits_div}
use lib.Pow.{pow_pos}
use lib.Seq.{get_or-append-add, get_or-drop}
use Rattle.ranges.specs.Refusals.{refusing, none, refused, BadWidth, BadPrefix}
use Rattle.ranges.specs.Spots.{spot_of, at_end}
use Rattle.ranges.specs.Sides.{end_of, past_of, side_of, void_of}
use Rattle.ranges.specs.Prefixes.{bounds_of, last_of}
use Rattle.ranges.specs.Blocks.{Ranged, prefixes_of, expand_fault, run_after, written, flat}
use Rattle.std.specs.Prelude.{Ok}
use Rattle.ranges.specs.declared.side.Side.TheVariants.{Above, Inside}
use Rattle.ranges.specs.declared.spot.Spot.{Spot}
use Rattle.ranges.specs.declared.spot.Spot.TheVariants.{AtBoth}
use Rattle.ranges.proofs.Spots.{Sits, sits, spot_is, end_iff, both_ends_iff}
use Rattle.ranges.proofs.Sides.{Lies, lies, within_high, past_high, past_date, NoNumber, void_when, side_above, side_inside, is_inside_lem}
use Rattle.ranges.proofs.InARow.{not_written}
use Rattle.ranges.proofs.Prefixes.{NoPrefix, bounds_9_iff, bounds_10_iff, bounds_are}
use Rattle.ranges.proofs.Passes.{flat-length}
use Rattle.ranges.proofs.Cover.{Each, TurnsBack, Largest, holders, prefixes_chain, chain_one, chain_before, chain_past, prefixes_turn_back, prefixes_largest}
use Rattle.ranges.proofs.Few.{few_prefixes, one_prefix}

-- a refusal as it is made has the cause or the number that was given, of a row or not, and place 0
pub refuse_says : {C : Type 0} (cause : C) → ((refusing cause 0 0).cause ≡ cause) × ((refusing cause 0 0).at ≡ 0) × ((refusing cause 0 0).then ≡ 0)
refuse_says cause = (refl, refl, refl)

-- so the refusal of a number is of that number
pub number_kept : (number : ℕ) → (refusing number 0 0).cause ≡ number
number_kept number = (refuse_says number).0

-- ---- T1
-- a number lies from an aligned value to the end of its block exactly where it agrees with the value in all bits above the lowest k
pub prefix_holds : (value k x : ℕ) → value % 2 ^ k ≡ 0 → ((value ≤ x) × (x < value + 2 ^ k)) ↔ (x / 2 ^ k ≡ value / 2 ^ k)
prefix_holds value k x even =
    let block : value / 2 ^ k * 2 ^ k + 0 ≡ value = ap (λ r. value / 2 ^ k * 2 ^ k + r) (sym even) ∙ div-add-mod' value (2 ^ k) in
    let split : x / 2 ^ k * 2 ^ k + x % 2 ^ k ≡ x = div-add-mod' x (2 ^ k) in (
      λ lies.
          let is : value / 2 ^ k * 2 ^ k + (x - value) ≡ x = omega (arith, lies) in
          sym (ap (λ y. y / 2 ^ k) is) ∙ digits_div (value / 2 ^ k) (omega (arith, lies)),
      λ e.
          let under = mod-lt x (pow_pos k) in
          let same : x / 2 ^ k * 2 ^ k ≡ value / 2 ^ k * 2 ^ k = ap (λ q. q * 2 ^ k) e in
          (omega arith, omega arith),
    )

-- such a prefix of 1 to 32 bits is not refused: its range starts at its value and ends with its block
pub prefix_stands : (w value len : ℕ) → 1 ≤ w → w ≤ 32 → len ≤ w → value < 2 ^ w → value % 2 ^ (w - len) ≡ 0
    → bounds_of w value len ≡ Ok (record { low = value; high = last_of w value len })
prefix_stands = bounds_are

-- a width, value and length are refused by 9 exactly when the width is not 1 to 32
pub prefix_9_iff : (w value len : ℕ) → (bounds_of w value len ≡ refused BadWidth) ↔ ((w < 1) ⊎ (32 < w))
prefix_9_iff = bounds_9_iff

-- and by 10 exactly when the width is 1 to 32 and value and length make no prefix of it, in one of the paper's three ways (`NoPrefix`)
pub prefix_10_iff : (w value len : ℕ) → (bounds_of w value len ≡ refused BadPrefix) ↔ NoPrefix w value len
prefix_10_iff = bounds_10_iff

-- ---- T2
-- whatever is refused, the run stays as lent
pub run_kept : (w low high : ℕ) (run : List ℕ) → (expand_fault w low high run ≡ none → ⊥) → run_after w low high run ≡ run
run_kept w low high run refuses = not_written (expand_fault w low high run) (written (prefixes_of w low high) run) run refuses

-- of an expansion that is written, each number past the last pair is as it was
pub run_past : (w low high : ℕ) (run : List ℕ) (k : ℕ)
    → get_or (written (prefixes_of w low high) run) (length (prefixes_of w low high) * 2 + k) 0 ≡ get_or run (length (prefixes_of w low high) * 2 + k) 0
unfolding written
run_past w low high run k =
    let ps = prefixes_of w low high in
    let n = length ps * 2 in
    ap (λ m. get_or (flat ps ++ drop n run) (m + k) 0) (sym (flat-length ps)) ∙ get_or-append-add (flat ps) (drop n run) k 0 ∙ get_or-drop n run k 0

-- ---- T3
-- each number of the range is held by exactly one of its prefixes: they cover the range and do not overlap
pub covers_once : (w low high x : ℕ) → low ≤ x → x ≤ high → holders w x (prefixes_of w low high) ≡ 1
covers_once w low high x from to =
    let end = within_high high x to in
    chain_one w x low (end_of high) (prefixes_of w low high) (prefixes_chain w low high (omega arith)) from end

-- a number before or past the range is held by none
pub covers_no_other : (w low high x : ℕ) → low ≤ high → (x < low) ⊎ (high < x) → holders w x (prefixes_of w low high) ≡ 0
covers_no_other w low high x le =
    let end = within_high high low le in
    let chain = prefixes_chain w low high (omega arith) in
    ⊎_elim
    (λ before. chain_before w x low (end_of high) (prefixes_of w low high) chain before)
    (λ past. chain_past w x low (end_of high) (prefixes_of w low high) chain (past_high high x past))

-- of a range that meets neither 9 nor 11, each prefix turned back gives the low and the high end of its block, and no refusal
pub turn_back : (w low high : ℕ) → Ranged w low high → Each (TurnsBack w) (prefixes_of w low high)
turn_back = prefixes_turn_back

-- no aligned block of w bits or fewer that starts where a prefix starts and stays in the range is larger than the prefix's
pub blocks_are_largest : (w low high : ℕ) → Each (Largest w high) (prefixes_of w low high)
blocks_are_largest = prefixes_largest

-- ---- T4
-- a range that meets neither 9 nor 11 has at most 2w - 2 prefixes at a width w of 2 or more
pub at_most_2w_2_prefixes : {w low high : ℕ} → Ranged w low high → 2 ≤ w → length (prefixes_of w low high) ≤ w * 2 - 2
at_most_2w_2_prefixes = few_prefixes

-- and exactly one at width 1
pub one_prefix_at_width_1 : {low high : ℕ} → Ranged 1 low high → length (prefixes_of 1 low high) ≡ 1
one_prefix_at_width_1 = one_prefix

-- ---- T5
-- a number is below the range, past it or inside, by the outcome of the test
pub side_says : (low past x : ℕ) → Lies low past x (side_of low past x)
side_says = lies

-- ---- W2
-- a number is below the range, past it, at one of its ends, at both or between them, by the outcome of the single range test
pub spot_says : (low past x : ℕ) → Sits low past x (spot_of low past x)
spot_says = sits

-- so exactly one of the six holds: the facts of an outcome hold of the numbers that have it and of no others
pub spot_one : {low past x : ℕ} {s : Spot} → Sits low past x s → spot_of low past x ≡ s
spot_one = spot_is

-- a number is at both ends exactly when it is low and the number after it is the first one past the range
pub both_iff : (low past x : ℕ) → (spot_of low past x ≡ AtBoth) ↔ ((x ≡ low) × (x + 1 ≡ past))
both_iff = both_ends_iff

-- ---- W8
-- the due day is past the range
pub due_day_is_past : (low high : ℕ) → low ≤ high → side_of low (past_of true high) high ≡ Above
due_day_is_past low high le = rw (past_date high) (side_above low high high le (omega arith))

-- the day before it is inside, and at an end: the high one, or both where it is low too
pub last_day_is_inside : (low day : ℕ) → low ≤ day
    → (side_of low (past_of true (day + 1)) day ≡ Inside) × (at_end (spot_of low (past_of true (day + 1)) day) ≡ true)
last_day_is_inside low day le =
    rw (past_date (day + 1)) (side_inside low (day + 1) day le (omega arith), (end_iff low (day + 1) day).1 record { from_low = le; to_past = omega arith; end = inr refl })

-- high has 32 bits, so that the largest number of 32 bits lies before no high
pub top_in_no_date : (low high : ℕ) → high < 2 ^ 32 → side_of low (past_of true high) (2 ^ 32 - 1) ≡ Inside → ⊥
top_in_no_date low high few e = let at = is_inside_lem low (past_of true high) (2 ^ 32 - 1) e in omega (arith, at.1, past_date high)

-- a rule's range holds no number exactly when low > high, and of dates also when low = high
pub void_iff : (date : Bool) (low high : ℕ) → (void_of low (past_of date high) ≡ true) ↔ NoNumber date low high
void_iff = void_when
