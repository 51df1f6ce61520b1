-- Laws of a line of numbers read cell by cell (`specs/Rows.antt`), and the statement that its bytes come to its cells.
--     more_few, more_many                  one cell more
--     kept_length, kept_long               the run keeps its length
--     row_is                               all bytes of a line: its cells
-- Assumes nothing.
use Prim.Native.Nat.{ℕ, ◌+◌, ◌-◌, ◌≤◌, ◌<◌}
use mathlib.Core.Bool.{Bool, true, false}
use mathlib.Core.List.{List, [], ◌∷◌}
use mathlib.Core.Path.{◌≡◌, refl, ◌∙◌}
use borrow.Author.Tests.{lt-ltb, le-ltb}
use lib.ListN.{length, length-set}
use lib.Dec.{eqb}
use Rattle.ranges.specs.Numbers.{pick}
use Rattle.text.specs.Cells.{fed, with_byte}
use Rattle.text.specs.Rows.{counted_to, one_more, row_next, kept_as, kept_at, in_front, cells_in, Reading, begin, ended, within, read_byte, read_cell, read_cells}
use Rattle.text.proofs.Cells.{cell_is}
use Rattle.text.specs.declared.cell.Cell.{Cell}
use Rattle.text.specs.declared.cell.Cell.TheVariants.{Empty, Number, Bad}
use Rattle.text.specs.declared.row.Row.{Row}

-- ---- one cell more
pub more_few : (k : ℕ) → k < counted_to → one_more k ≡ k + 1
unfolding one_more
more_few k lt = rw (lt-ltb k counted_to lt)

pub more_many : (k : ℕ) → counted_to ≤ k → one_more k ≡ k - 1
unfolding one_more
more_many k le = rw (le-ltb k counted_to le)

-- ---- the run keeps its length
pub kept_length : (cell : Cell) (at : ℕ) (run : List ℕ) → length (kept_as cell at run) ≡ length run
kept_length Empty at run = refl
kept_length (Number v) at run = length-set run at v
kept_length Bad at run = refl

pub kept_long : (row : Row) (from : ℕ) (run : List ℕ) → length (kept_at row from run) ≡ length run
unfolding kept_at
kept_long row from run = kept_length row.cell (from + row.cells) run

-- ---- the bytes of a line come to its cells
-- the present cell takes whole bytes and ends
abbrev filled : ℕ → Reading → List ℕ → Reading
filled from s c = ended from (record { row = record { cell = fed with_byte s.row.cell c; cells = s.row.cells; bad = s.row.bad }; run = s.run })

-- the first piece goes on with the present cell, each other is a cell of its own
abbrev goes_on : ℕ → Reading → List (List ℕ) → Reading
goes_on from s [] = ended from s
goes_on from s (c ∷ cs) = read_cells from (filled from s c) cs

-- where the present cell is empty, that is a whole cell
filled_whole : (from : ℕ) (s : Reading) (c : List ℕ) → s.row.cell ≡ Empty → filled from s c ≡ read_cell from s c
unfolding row_next kept_at
filled_whole from s c e = rw (e, cell_is c)

-- there is always a first piece
front_whole : (from : ℕ) (s : Reading) → s.row.cell ≡ Empty → (b : ℕ) (cs : List (List ℕ)) → goes_on from s (in_front b cs) ≡ read_cells from s (in_front b cs)
front_whole from s e b [] = rw (filled_whole from s (b ∷ []) e)
front_whole from s e b (c ∷ cs) = rw (filled_whole from s (b ∷ c) e)

whole : (by from : ℕ) (s : Reading) → s.row.cell ≡ Empty → (l : List ℕ) → goes_on from s (cells_in by l) ≡ read_cells from s (cells_in by l)
whole by from s e [] = rw (filled_whole from s [] e)
whole by from s e (b ∷ l) = go (eqb b by)
  where
    go : (t : Bool) → goes_on from s (pick t ([] ∷ cells_in by l) (in_front b (cells_in by l))) ≡ read_cells from s (pick t ([] ∷ cells_in by l) (in_front b (cells_in by l)))
    go true = rw (filled_whole from s [] e)
    go false = front_whole from s e b (cells_in by l)

next_starts : (row : Row) → (row_next row).cell ≡ Empty
unfolding row_next
next_starts row = refl

-- a byte of the present cell
within_on : (from : ℕ) (s : Reading) (b : ℕ) (cs : List (List ℕ)) → goes_on from (within s b) cs ≡ goes_on from s (in_front b cs)
within_on from s b [] = refl
within_on from s b (c ∷ cs) = refl

read_on_lem : (by from : ℕ) (l : List ℕ) (s : Reading) → ended from (fed (read_byte by from) s l) ≡ goes_on from s (cells_in by l)
unfolding read_byte
read_on_lem by from [] s = refl
read_on_lem by from (b ∷ l) s = go (eqb b by) (read_on_lem by from l)
  where
    go : (t : Bool) → ((r : Reading) → ended from (fed (read_byte by from) r l) ≡ goes_on from r (cells_in by l))
        → ended from (fed (read_byte by from) (pick t (ended from s) (within s b)) l) ≡ goes_on from s (pick t ([] ∷ cells_in by l) (in_front b (cells_in by l)))
    go true follow = follow (ended from s) ∙ whole by from (ended from s) (next_starts s.row) l
    go false follow = follow (within s b) ∙ within_on from s b (cells_in by l)

-- a line's bytes, read one by one from nothing, come to its cells
pub row_is : (by from : ℕ) (run l : List ℕ) → ended from (fed (read_byte by from) (begin run) l) ≡ read_cells from (begin run) (cells_in by l)
row_is by from run l = read_on_lem by from l (begin run) ∙ whole by from (begin run) refl l
