-- Laws of a cell read byte by byte (`specs/Cells.antt`), and the statement that it comes to what 01 says of its bytes.
--     digit_empty, digit_zero, digit_large, digit_more, digit_bad     one digit more
--     byte_low, byte_high, byte_digit                                 one byte more
--     cell_is                                                         all bytes: `whole_cell`
-- Assumes nothing.
use Prim.Native.Nat.{ℕ, ◌+◌, ◌-◌, ◌*◌, ◌≤◌, ◌<◌}
use mathlib.Core.Bool.{Bool, true, false}
use mathlib.Core.List.{List, [], ◌∷◌}
use mathlib.Core.Path.{◌≡◌, refl, sym, ◌∙◌}
use native.Mathlib.Omega.{arith}
use borrow.Author.Tests.{lt-ltb, le-ltb, le-leb, lt-leb, eq-eqb, ne_eqb, ltb-true, ltb-false, leb-true, leb-false, eqb-true, eqb-false}
use lib.Dec.{ltb, leb, eqb}
use Rattle.ranges.specs.Numbers.{pick, ◌and◌}
use Rattle.text.specs.Cells.{fed, is_digit, all_digits, value_from, whole_cell, with_digit, with_byte}
use Rattle.text.specs.declared.cell.Cell.{Cell}
use Rattle.text.specs.declared.cell.Cell.TheVariants.{Empty, Number, Bad}

-- ---- one digit more
module _ (cell : Cell) (x : ℕ) where
  pub digit_empty : cell ≡ Empty → with_digit cell x ≡ Number x
  unfolding with_digit
  digit_empty is = rw is

  pub digit_bad : cell ≡ Bad → with_digit cell x ≡ Bad
  unfolding with_digit
  digit_bad is = rw is

module _ (cell : Cell) (v x : ℕ) (is : cell ≡ Number v) where
  -- nothing may follow a zero
  pub digit_zero : v ≡ 0 → with_digit cell x ≡ Bad
  unfolding with_digit
  digit_zero e = rw (is, eq-eqb v 0 e)

  pub digit_large : (v ≡ 0 → ⊥) → 4294967295 < v * 10 + x → with_digit cell x ≡ Bad
  unfolding with_digit
  digit_large ne lt = rw (is, ne_eqb v 0 ne, lt-ltb 4294967295 (v * 10 + x) lt)

  pub digit_more : (v ≡ 0 → ⊥) → v * 10 + x ≤ 4294967295 → with_digit cell x ≡ Number (v * 10 + x)
  unfolding with_digit
  digit_more ne le = rw (is, ne_eqb v 0 ne, le-ltb 4294967295 (v * 10 + x) le)

-- ---- one byte more
module _ (cell : Cell) (b : ℕ) where
  pub byte_low : b < 48 → with_byte cell b ≡ Bad
  unfolding with_byte
  byte_low lt = rw (lt-ltb b 48 lt)

  pub byte_high : 57 < b → with_byte cell b ≡ Bad
  unfolding with_byte
  byte_high lt =
      let over : 48 ≤ b = omega arith in
      rw (le-ltb b 48 over, lt-ltb 57 b lt)

  pub byte_digit : 48 ≤ b → b ≤ 57 → with_byte cell b ≡ with_digit cell (b - 48)
  unfolding with_byte
  byte_digit low high = rw (le-ltb b 48 low, le-ltb 57 b high)

-- ---- a byte that is a digit, and one that is not
-- a test's way: a digit, with its bounds, or none, when every cell with it is bad
data Tried (b : ℕ) : Bool → Type 0 where
  digit : 48 ≤ b → b ≤ 57 → Tried b true
  other : ((cell : Cell) → with_byte cell b ≡ Bad) → Tried b false

tried : (b : ℕ) → Tried b (is_digit b)
unfolding is_digit
tried b = go (leb 48 b) (leb b 57) refl refl
  where
    go : (s t : Bool) → leb 48 b ≡ s → leb b 57 ≡ t → Tried b (s and t)
    go true true p q = digit (leb-true 48 b p) (leb-true b 57 q)
    go true false p q = other (λ cell. byte_high cell b (leb-false b 57 q))
    go false t p q = other (λ cell. byte_low cell b (leb-false 48 b p))

-- ---- all bytes
-- what was bad stays bad
bad_more : (b : ℕ) → with_byte Bad b ≡ Bad
bad_more b = go (is_digit b) (tried b)
  where
    go : (t : Bool) → Tried b t → with_byte Bad b ≡ Bad
    go true (digit low high) = byte_digit Bad b low high ∙ digit_bad Bad (b - 48) refl
    go false (other bad) = bad Bad

bad_stays : (bs : List ℕ) → fed with_byte Bad bs ≡ Bad
bad_stays [] = refl
bad_stays (b ∷ bs) = rw (bad_more b) (bad_stays bs)

-- digits only add to a number
value_ge : (v : ℕ) (bs : List ℕ) → v ≤ value_from v bs
value_ge v [] = omega arith
value_ge v (b ∷ bs) = omega (arith, value_ge (v * 10 + (b - 48)) bs)

and-false : (t : Bool) → t and false ≡ false
and-false true = refl
and-false false = refl

-- what further bytes make of a number, 1 to 4294967295
abbrev further : ℕ → List ℕ → Cell
further v bs = pick (all_digits bs and leb (value_from v bs) 4294967295) (Number (value_from v bs)) Bad

-- too large already: no further digit mends it
further_large : (v : ℕ) (bs : List ℕ) → 4294967295 < v → further v bs ≡ Bad
further_large v bs lt =
    let over : 4294967295 < value_from v bs = omega (arith, value_ge v bs) in
    rw (lt-leb (value_from v bs) 4294967295 over, and-false (all_digits bs))

-- one digit more of a number, where what follows is known of every number
number_more : (v b : ℕ) (bs : List ℕ) → 0 < v → 48 ≤ b → b ≤ 57 → ((w : ℕ) → 0 < w → w ≤ 4294967295 → fed with_byte (Number w) bs ≡ further w bs)
    → fed with_byte (with_byte (Number v) b) bs ≡ further (v * 10 + (b - 48)) bs
number_more v b bs pos low high follow = rw (byte_digit (Number v) b low high) (go (ltb 4294967295 (v * 10 + (b - 48))) refl)
  where
    nonzero : v ≡ 0 → ⊥
    nonzero e = omega arith

    go : (t : Bool) → ltb 4294967295 (v * 10 + (b - 48)) ≡ t → fed with_byte (with_digit (Number v) (b - 48)) bs ≡ further (v * 10 + (b - 48)) bs
    go true e =
        let over = ltb-true 4294967295 (v * 10 + (b - 48)) e in
        rw (digit_large (Number v) v (b - 48) refl nonzero over) (bad_stays bs ∙ sym (further_large (v * 10 + (b - 48)) bs over))
    go false e =
        let within = ltb-false 4294967295 (v * 10 + (b - 48)) e in
        rw (digit_more (Number v) v (b - 48) refl nonzero within) (follow (v * 10 + (b - 48)) (omega arith) within)

number_fed : (bs : List ℕ) (v : ℕ) → 0 < v → v ≤ 4294967295 → fed with_byte (Number v) bs ≡ further v bs
number_fed [] v pos le = rw (le-leb v 4294967295 le)
number_fed (b ∷ bs) v pos le = go (number_fed bs) (is_digit b) (tried b)
  where
    go : ((w : ℕ) → 0 < w → w ≤ 4294967295 → fed with_byte (Number w) bs ≡ further w bs) → (t : Bool) → Tried b t
        → fed with_byte (with_byte (Number v) b) bs
        ≡ pick ((t and all_digits bs) and leb (value_from (v * 10 + (b - 48)) bs) 4294967295) (Number (value_from (v * 10 + (b - 48)) bs)) Bad
    go follow true (digit low high) = number_more v b bs pos low high follow
    go follow false (other bad) = rw (bad (Number v)) (bad_stays bs)

-- a zero stands alone
zero_more : (b : ℕ) → with_byte (Number 0) b ≡ Bad
zero_more b = go (is_digit b) (tried b)
  where
    go : (t : Bool) → Tried b t → with_byte (Number 0) b ≡ Bad
    go true (digit low high) = byte_digit (Number 0) b low high ∙ digit_zero (Number 0) 0 (b - 48) refl refl
    go false (other bad) = bad (Number 0)

-- the first digit is a zero
first-zero : (b : ℕ) (bs : List ℕ) → b ≡ 48 → fed with_byte (Number (b - 48)) bs ≡ whole_cell (b ∷ bs)
unfolding is_digit
first-zero b [] e = rw e
first-zero b (c ∷ bs) e = rw (e, zero_more c, and-false (is_digit c and all_digits bs)) (bad_stays bs)

-- the first digit is another
first-other : (b : ℕ) (bs : List ℕ) → 48 < b → b ≤ 57 → is_digit b ≡ true → fed with_byte (Number (b - 48)) bs ≡ whole_cell (b ∷ bs)
first-other b [] lt high is =
    let small : b - 48 ≤ 4294967295 = omega arith in
    let same : 0 + (b - 48) ≡ b - 48 = omega arith in
    rw (is, same, le-leb (b - 48) 4294967295 small)
first-other b (c ∷ bs) lt high is =
    let ne : b ≡ 48 → ⊥ = λ e. omega arith in
    let same : 0 + (b - 48) ≡ b - 48 = omega arith in
    let pos : 0 < b - 48 = omega arith in
    let small : b - 48 ≤ 4294967295 = omega arith in
    rw (is, ne_eqb b 48 ne, same) (number_fed (c ∷ bs) (b - 48) pos small)

first_digit : (b : ℕ) (bs : List ℕ) → 48 ≤ b → b ≤ 57 → is_digit b ≡ true → fed with_byte (Number (b - 48)) bs ≡ whole_cell (b ∷ bs)
first_digit b bs low high is = go (eqb b 48) refl
  where
    go : (t : Bool) → eqb b 48 ≡ t → fed with_byte (Number (b - 48)) bs ≡ whole_cell (b ∷ bs)
    go true e = first-zero b bs (eqb-true b 48 e)
    go false e =
        let ne : b ≡ 48 → ⊥ = eqb-false b 48 e in
        first-other b bs (omega arith) high is

-- a cell's bytes, fed one by one to no cell, come to what 01 says of them
pub cell_is : (bs : List ℕ) → fed with_byte Empty bs ≡ whole_cell bs
cell_is [] = refl
cell_is (b ∷ bs) = go (is_digit b) refl (tried b)
  where
    go : (t : Bool) → is_digit b ≡ t → Tried b t → fed with_byte (with_byte Empty b) bs ≡ whole_cell (b ∷ bs)
    go true is (digit low high) = rw (byte_digit Empty b low high, digit_empty Empty (b - 48) refl) (first_digit b bs low high is)
    go false is (other bad) = rw (bad Empty, is) (bad_stays bs)
