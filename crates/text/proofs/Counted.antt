-- What a whole line's cells come to (`read_cells` of `specs/Rows.antt`): whether all are numbers, how many they are, and
-- where their numbers stand in the run.
--     number_is                             a cell that is a number
--     line_bad, bad-none, cells_good        the first that is no number, if any
--     cells_count, cells_run                what cells come to
--     cells_long                            the run keeps its length
--     values_length                         as many numbers as cells
--     many_either                           the count is exact, or it and the true one are at least `exact_below` and even or odd alike
--     many_same                             it tells a count below `exact_below` from every other
-- Assumes nothing.
use Prim.Native.Nat.{ℕ, suc, ◌+◌, ◌-◌, ◌%◌, ◌≤◌, ◌<◌}
use mathlib.Core.Bool.{Bool, true, false}
use mathlib.Core.List.{List, [], ◌∷◌}
use mathlib.Core.Path.{◌≡◌, refl, sym, ap, ◌∙◌}
use native.Mathlib.Omega.{arith}
use borrow.Author.Tests.{ne_eqb, ltb-true, ltb-false, leb-true, leb-false}
use lib.Dec.{ltb, leb, eqb}
use lib.ListN.{length, set}
use lib.Seq.{sets}
use Rattle.std.specs.Prelude.{Option, Some, None, is_none}
use Rattle.std.specs.Option.{option_or}
use Rattle.ranges.specs.Numbers.{pick, ◌and◌}
use Rattle.ranges.proofs.Numbers.{never, and_left, and_right}
use Rattle.text.specs.Cells.{whole_cell, is_number, readable, value_of}
use Rattle.text.specs.Rows.{all_numbers, values_of, counted_to, exact_below, one_more, many_more, bad_in, first_bad, bad_after, good, kept_as, Reading, begin, read_cell, read_cells}
use Rattle.text.specs.declared.cell.Cell.{Cell}
use Rattle.text.specs.declared.cell.Cell.TheVariants.{Empty, Number, Bad}
use Rattle.text.proofs.Rows.{more_few, more_many, kept_length}

-- ---- a cell that is a number
pub number_is : (c : List ℕ) → is_number (whole_cell c) ≡ true → whole_cell c ≡ Number (value_of c)
number_is [] e = never (cc)
number_is (b ∷ bs) e = go (readable (b ∷ bs)) e
  where
    go : (t : Bool) → is_number (pick t (Number (value_of (b ∷ bs))) Bad) ≡ true → pick t (Number (value_of (b ∷ bs))) Bad ≡ Number (value_of (b ∷ bs))
    go true e' = refl
    go false e' = never (cc)

-- ---- the first that is no number
-- after cells of which one is bad, whatever follows
first_kept : (bad : Option ℕ) (k : ℕ) (o : Option ℕ) → option_or (first_bad bad k) o ≡ first_bad bad k
first_kept None k o = refl
first_kept (Some b) k o = refl

-- none follows
first-none : (bad : Option ℕ) → option_or bad None ≡ bad
first-none None = refl
first-none (Some b) = refl

cells_bad : (from : ℕ) (s : Reading) (cs : List (List ℕ)) → (read_cells from s cs).row.bad ≡ option_or s.row.bad (bad_in s.row.cells cs)
cells_bad from s [] = sym (first-none s.row.bad)
cells_bad from s (c ∷ cs) = cells_bad from (read_cell from s c) cs ∙ go (whole_cell c)
  where
    k : ℕ
    k = one_more s.row.cells

    go : (cell : Cell) → option_or (bad_after cell s.row.bad k) (bad_in k cs) ≡ option_or s.row.bad (pick (is_number cell) (bad_in k cs) (Some k))
    go Empty = first_kept s.row.bad k (bad_in k cs)
    go (Number v) = refl
    go Bad = first_kept s.row.bad k (bad_in k cs)

-- there is none exactly where all are numbers
pub bad-none : (k : ℕ) (cs : List (List ℕ)) → is_none (bad_in k cs) ≡ all_numbers cs
bad-none k [] = refl
bad-none k (c ∷ cs) = go (is_number (whole_cell c)) (bad-none (one_more k) cs)
  where
    go : (t : Bool) → is_none (bad_in (one_more k) cs) ≡ all_numbers cs → is_none (pick t (bad_in (one_more k) cs) (Some (one_more k))) ≡ t and all_numbers cs
    go true follow = follow
    go false follow = refl

-- a line read from nothing
module _ (from : ℕ) (run : List ℕ) (cs : List (List ℕ)) where
  pub line_bad : (read_cells from (begin run) cs).row.bad ≡ bad_in 0 cs
  line_bad = cells_bad from (begin run) cs

  pub cells_good : good (read_cells from (begin run) cs).row ≡ all_numbers cs
  cells_good = ap is_none line_bad ∙ bad-none 0 cs

-- ---- how many they are
pub cells_count : (from : ℕ) (s : Reading) (cs : List (List ℕ)) → (read_cells from s cs).row.cells ≡ many_more s.row.cells cs
cells_count from s [] = refl
cells_count from s (c ∷ cs) = cells_count from (read_cell from s c) cs

many_few : (cs : List (List ℕ)) (k : ℕ) → k + length cs ≤ counted_to → many_more k cs ≡ k + length cs
many_few [] k few = omega arith
many_few (c ∷ cs) k few =
    let one : one_more k ≡ k + 1 = more_few k (omega arith) in
    ap (λ j. many_more j cs) one ∙ many_few cs (k + 1) (omega arith) ∙ omega arith

-- one more stays within, and changes even and odd
record Stepped (k j : ℕ) : Type 0 where
  pub within : j ≤ counted_to
  pub parity : j % 2 ≡ (k + 1) % 2

stepped : (k : ℕ) → k ≤ counted_to → Stepped k (one_more k)
stepped k le = go (ltb k counted_to) refl
  where
    go : (t : Bool) → ltb k counted_to ≡ t → Stepped k (one_more k)
    go true e =
        let lt = ltb-true k counted_to e in
        let one : one_more k ≡ k + 1 = more_few k lt in
        record { within = omega arith; parity = ap (λ j. j % 2) one }
    go false e =
        let over = ltb-false k counted_to e in
        let one : one_more k ≡ k - 1 = more_many k over in
        record { within = omega arith; parity = omega arith }

many_large : (cs : List (List ℕ)) (k : ℕ) → k ≤ counted_to → exact_below ≤ k + length cs → exact_below ≤ many_more k cs
many_large [] k le large = omega arith
many_large (c ∷ cs) k le large = many_large cs (one_more k) (stepped k le).within (go (ltb k counted_to) refl)
  where
    go : (t : Bool) → ltb k counted_to ≡ t → exact_below ≤ one_more k + length cs
    go true e = let lt = ltb-true k counted_to e in let one : one_more k ≡ k + 1 = more_few k lt in omega arith
    go false e = let over = ltb-false k counted_to e in let one : one_more k ≡ k - 1 = more_many k over in omega arith

many_parity : (cs : List (List ℕ)) (k : ℕ) → k ≤ counted_to → many_more k cs % 2 ≡ (k + length cs) % 2
many_parity [] k le = let same : k + 0 ≡ k = omega arith in ap (λ j. j % 2) (sym same)
many_parity (c ∷ cs) k le =
    let s = stepped k le in
    let rest = many_parity cs (one_more k) s.within in
    let parity = s.parity in
    rest ∙ omega arith

-- so a count is exact, or it and the true one are both at least `exact_below` and even or odd alike
pub many_either : {P : Type 0} (cs : List (List ℕ)) → (many_more 0 cs ≡ length cs → P)
    → (exact_below ≤ many_more 0 cs → exact_below ≤ length cs → many_more 0 cs % 2 ≡ length cs % 2 → P) → P
many_either {P} cs exact past = go (leb (length cs) counted_to) refl
  where
    go : (t : Bool) → leb (length cs) counted_to ≡ t → P
    go true e =
        let few = leb-true (length cs) counted_to e in
        exact (omega (arith, many_few cs 0 (omega arith)))
    go false e =
        let many = leb-false (length cs) counted_to e in
        let zero_in : 0 + length cs ≡ length cs = omega arith in
        past (many_large cs 0 (omega arith) (omega arith)) (omega arith) (many_parity cs 0 (omega arith) ∙ ap (λ k. k % 2) zero_in)

pub many_same : (cs : List (List ℕ)) (w : ℕ) → w < exact_below → eqb (many_more 0 cs) w ≡ eqb (length cs) w
many_same cs w lt =
    many_either cs (λ same. rw same) (λ large many parity. ne_eqb (many_more 0 cs) w (λ is. omega arith) ∙ sym (ne_eqb (length cs) w (λ is. omega arith)))

-- ---- where their numbers stand
pub values_length : (cs : List (List ℕ)) → length (values_of cs) ≡ length cs
values_length [] = refl
values_length (c ∷ cs) = ap suc (values_length cs)

pub cells_run : (cs : List (List ℕ)) (from : ℕ) (s : Reading) → all_numbers cs ≡ true → s.row.cells + length cs ≤ counted_to
    → (read_cells from s cs).run ≡ sets s.run (from + s.row.cells) (values_of cs)
cells_run [] from s all few = refl
cells_run (c ∷ cs) from s all few =
    let first = number_is c (and_left (is_number (whole_cell c)) (all_numbers cs) all) in
    let rest = and_right (is_number (whole_cell c)) (all_numbers cs) all in
    let one : one_more s.row.cells ≡ s.row.cells + 1 = more_few s.row.cells (omega arith) in
    let place : from + one_more s.row.cells ≡ suc (from + s.row.cells) = omega arith in
    cells_run cs from (read_cell from s c) rest (omega arith)
    ∙ ap (λ cell. sets (kept_as cell (from + s.row.cells) s.run) (from + one_more s.row.cells) (values_of cs)) first
    ∙ ap (λ j. sets (set s.run (from + s.row.cells) (value_of c)) j (values_of cs)) place

-- the run keeps its length
pub cells_long : (cs : List (List ℕ)) (from : ℕ) (s : Reading) → length (read_cells from s cs).run ≡ length s.run
cells_long [] from s = refl
cells_long (c ∷ cs) from s = cells_long cs from (read_cell from s c) ∙ kept_length (whole_cell c) (from + s.row.cells) s.run
