-- A line of CSV cells as its reader holds it: 01, The program. 44 is the comma, 13 CR and 10 LF.
-- `line_byte` and `cell_ended` say what a byte of a line and a cell's end do, as the code goes; `whole_line` says what all
-- bytes of a line come to. That the two agree is `line_is` of `proofs/Lines.antt`. How bytes part into lines is
-- `Files.antt`.
-- Assumes nothing: these are definitions.
use Rattle.std.specs.Prelude.{ℕ, Bool, true, false, List, [], ◌∷◌, ◌≡◌, take, eqb}
use Rattle.ranges.specs.Numbers.{pick}
use Rattle.text.specs.Rows.{fresh, row_with, row_next, kept_at, cells_in, Reading, begin, read_cells}
use Rattle.text.specs.Cells.{fed}
use Rattle.text.specs.Files.{InFile, in_file, step, line_in, ends_in, settled, last_line}
use Rattle.text.specs.declared.row.Row.{Row}
use Rattle.text.specs.declared.line.Line.{Line}
use Rattle.text.specs.declared.line.Reader.{Reader}
use Rattle.text.specs.declared.line.LineRead.{LineRead}

-- the cells of a line, parted by commas
abbrev pub cells_of : List ℕ → List (List ℕ)
cells_of line = cells_in 44 line

-- an LF stands in a line
abbrev pub feed_in : List ℕ → Bool
feed_in [] = false
feed_in (b ∷ bs) = pick (eqb b 10) true (feed_in bs)

-- ---- what has come of a line
abbrev pub line_of : Bool → Bool → Row → Line
line_of begun feed row = record { begun = begun; feed = feed; row = row }

-- nothing
abbrev pub no_line : Line
no_line = line_of false false fresh

abbrev pub no_bytes : Reader
no_bytes = record { cr = false; line = no_line }

-- a line, and the run that its numbers go to
pub record LineNow : Type 0 where
  pub line : Line
  pub run : List ℕ

abbrev pub line_now : Line → List ℕ → LineNow
line_now line run = record { line = line; run = run }

abbrev pub in_file_now : Reader → List ℕ → InFile LineNow
in_file_now r run = in_file r.cr (line_now r.line run)

-- its cells and that run
abbrev pub reading : LineNow → Reading
reading s = record { row = s.line.row; run = s.run }

-- ---- byte by byte
-- whether an LF has come, after one byte more
unfoldable pub has_feed : Bool → ℕ → Bool
has_feed feed b = pick (eqb b 10) true feed

-- the present cell ends; the number of a line's first cell goes to place `from`
unfoldable pub cell_ended : ℕ → LineNow → LineNow
cell_ended from s = line_now (line_of true s.line.feed (row_next s.line.row)) (kept_at s.line.row from s.run)

-- the present cell takes a byte
abbrev pub byte_taken : Line → ℕ → Line
byte_taken line b = line_of true (has_feed line.feed b) (row_with line.row b)

-- one byte of a line
unfoldable pub line_byte : ℕ → LineNow → ℕ → LineNow
line_byte from s b = pick (eqb b 44) (cell_ended from s) (line_now (byte_taken s.line b) s.run)

-- one byte of a file
abbrev pub line_step : ℕ → InFile LineNow → ℕ → InFile LineNow
line_step from = step (line_byte from) (cell_ended from)

-- the file's end: the present line, a CR that waits counted, ends where any byte of it has come
abbrev pub line_begun : LineNow → Bool
line_begun s = s.line.begun

abbrev pub line_left : ℕ → InFile LineNow → LineNow
line_left from s = settled (line_byte from) s

abbrev pub line_last : ℕ → InFile LineNow → LineNow
line_last from s = last_line (cell_ended from) line_begun (line_left from s)

-- what a reader does with bytes: it takes those up to the end of the present line
pub record TookLine (from : ℕ) (r : Reader) (bytes run : List ℕ) (read : LineRead) (after : List ℕ) : Type 0 where
  pub used : read.used ≡ line_in r.cr bytes
  pub ended : read.ended ≡ ends_in r.cr bytes
  pub line : in_file_now read.reader after ≡ fed (line_step from) (in_file_now r run) (take read.used bytes)

-- and at the file's end
pub record TookLast (from : ℕ) (r : Reader) (run : List ℕ) (read : LineRead) (after : List ℕ) : Type 0 where
  pub used : read.used ≡ 0
  pub ended : read.ended ≡ line_begun (line_left from (in_file_now r run))
  pub line : in_file_now read.reader after ≡ in_file false (line_last from (in_file_now r run))

-- ---- a whole line
abbrev pub whole_line : ℕ → List ℕ → List ℕ → LineNow
whole_line from run line = line_now (line_of true (feed_in line) (read_cells from (begin run) (cells_of line)).row) (read_cells from (begin run) (cells_of line)).run
