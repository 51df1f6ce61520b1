-- A line of numbers, read cell by cell. `cells_in` cuts a whole line into its cells; `read_cells` says what they come
-- to. `read_byte` says the same byte by byte, as the code goes; that the two agree is `row_is` of `proofs/Rows.antt`.
-- Assumes nothing: these are definitions.
use Rattle.std.specs.Prelude.{ℕ, ◌+◌, ◌-◌, Bool, true, List, [], ◌∷◌, set, ltb, eqb, Option, Some, None, is_none}
use Rattle.std.specs.Option.{option_or}
use Rattle.ranges.specs.Numbers.{pick, ◌and◌}
use Rattle.text.specs.Cells.{with_byte, whole_cell, is_number, value_of}
use Rattle.text.specs.declared.cell.Cell.{Cell}
use Rattle.text.specs.declared.cell.Cell.TheVariants.{Empty, Number, Bad}
use Rattle.text.specs.declared.row.Row.{Row}

-- ---- a whole line
-- puts a byte in front of the first piece, and makes one where there is none
abbrev pub in_front : ℕ → List (List ℕ) → List (List ℕ)
in_front b [] = (b ∷ []) ∷ []
in_front b (c ∷ cs) = (b ∷ c) ∷ cs

-- the cells of a line, parted by a byte: one more than there are such bytes
abbrev pub cells_in : ℕ → List ℕ → List (List ℕ)
cells_in by [] = [] ∷ []
cells_in by (b ∷ bs) = pick (eqb b by) ([] ∷ cells_in by bs) (in_front b (cells_in by bs))

-- every cell is a number
abbrev pub all_numbers : List (List ℕ) → Bool
all_numbers [] = true
all_numbers (c ∷ cs) = is_number (whole_cell c) and all_numbers cs

-- the numbers of cells that are numbers
abbrev pub values_of : List (List ℕ) → List ℕ
values_of [] = []
values_of (c ∷ cs) = value_of c ∷ values_of cs

-- ---- what has been read of a line
-- nothing
abbrev pub fresh : Row
fresh = record { cell = Empty; cells = 0; bad = None }

-- cells are counted exactly up to here, and past that to and fro, even or odd as it should be
abbrev pub counted_to : ℕ
counted_to = 65536

-- a count below this is exact
abbrev pub exact_below : ℕ
exact_below = counted_to - 1

-- one cell more
unfoldable pub one_more : ℕ → ℕ
one_more k = pick (ltb k counted_to) (k + 1) (k - 1)

-- k cells and then these
abbrev pub many_more : ℕ → List (List ℕ) → ℕ
many_more k [] = k
many_more k (c ∷ cs) = many_more (one_more k) cs

-- the first cell after k cells that is no number, counted from 1 as above
abbrev pub bad_in : ℕ → List (List ℕ) → Option ℕ
bad_in k [] = None
bad_in k (c ∷ cs) = pick (is_number (whole_cell c)) (bad_in (one_more k) cs) (Some (one_more k))

-- the first cell that is no number, where cell k is none and bad is the first before it
abbrev pub first_bad : Option ℕ → ℕ → Option ℕ
first_bad bad k = option_or bad (Some k)

-- the same after one cell more, the k-th
abbrev pub bad_after : Cell → Option ℕ → ℕ → Option ℕ
bad_after Empty bad k = first_bad bad k
bad_after (Number v) bad k = bad
bad_after Bad bad k = first_bad bad k

-- every cell that has ended is a number
abbrev pub good : Row → Bool
good row = is_none row.bad

-- a run of numbers with a cell's number at a place; one past the run's end changes nothing
abbrev pub kept_as : Cell → ℕ → List ℕ → List ℕ
kept_as Empty at run = run
kept_as (Number v) at run = set run at v
kept_as Bad at run = run

-- with one byte more in the present cell
abbrev pub row_with : Row → ℕ → Row
row_with row b = record { cell = with_byte row.cell b; cells = row.cells; bad = row.bad }

-- with the present cell ended
unfoldable pub row_next : Row → Row
row_next row = record { cell = Empty; cells = one_more row.cells; bad = bad_after row.cell row.bad (one_more row.cells) }

-- and the run then, for a line whose first number goes to place `from`
unfoldable pub kept_at : Row → ℕ → List ℕ → List ℕ
kept_at row from run = kept_as row.cell (from + row.cells) run

-- ---- a line and the run that its numbers go to, byte by byte and cell by cell
pub record Reading : Type 0 where
  pub row : Row
  pub run : List ℕ

-- nothing of a line has been read
abbrev pub begin : List ℕ → Reading
begin run = record { row = fresh; run = run }

-- the present cell ends
abbrev pub ended : ℕ → Reading → Reading
ended from s = record { row = row_next s.row; run = kept_at s.row from s.run }

-- the present cell takes a byte
abbrev pub within : Reading → ℕ → Reading
within s b = record { row = row_with s.row b; run = s.run }

-- one byte of a line: what parts its cells ends the present cell, any other byte belongs to it
unfoldable pub read_byte : ℕ → ℕ → Reading → ℕ → Reading
read_byte by from s b = pick (eqb b by) (ended from s) (within s b)

-- a whole cell
abbrev pub read_cell : ℕ → Reading → List ℕ → Reading
read_cell from s c =
    record {
      row = record { cell = Empty; cells = one_more s.row.cells; bad = bad_after (whole_cell c) s.row.bad (one_more s.row.cells) };
      run = kept_as (whole_cell c) (from + s.row.cells) s.run;
    }

-- cells one after the other
abbrev pub read_cells : ℕ → Reading → List (List ℕ) → Reading
read_cells from s [] = s
read_cells from s (c ∷ cs) = read_cells from (read_cell from s c) cs
