-- A flaw's text, for a person: where it is, and what is wrong there. `path` is the file's name as given.
-- Assumes nothing: these are definitions.
use Rattle.std.specs.Prelude.{ℕ, ◌+◌, List, [], ◌++◌, ltb, eqb, Option, None, Some}
use Rattle.ranges.specs.Numbers.{pick}
use Rattle.text.specs.Rows.{exact_below}
use Rattle.text.specs.Texts.{bytes}
use Rattle.text.specs.Decimals.{decimal_of}
use Rattle.flaws.specs.declared.flaw.Flaw.{Flaw}
use Rattle.flaws.specs.declared.flaw.Flaw.TheVariants.{NoLine, NotNumber, LoneFeed, OtherWidth, OddWidth, TooWide, TooManyRules, LowAboveHigh}

-- a count of cells
unfoldable pub count_said : ℕ → List ℕ
count_said k = pick (ltb k exact_below) (decimal_of k) (bytes "65535 or more")

-- the word for what is counted: 1 cell, 2 cells
unfoldable pub plural_said : ℕ → List ℕ → List ℕ
plural_said n word = word ++ pick (eqb n 1) [] (bytes "s")

abbrev pub cells_said : ℕ → List ℕ
cells_said k = count_said k ++ plural_said k (bytes " cell")

-- a cell that is no number
abbrev pub not_number_said : ℕ → List ℕ
not_number_said cell = bytes "cell " ++ count_said cell ++ bytes ": not a plain number from 0 to 4294967295"

-- lines that end in LF
abbrev pub feed_said : List ℕ → List ℕ
feed_said path = bytes "lines end in LF and must end in CR LF: try unix2dos " ++ path

abbrev pub bad_cell_said : ℕ → ℕ → List ℕ
bad_cell_said line cell = bytes "line " ++ decimal_of line ++ bytes ", " ++ not_number_said cell

abbrev pub other_width_said : ℕ → ℕ → ℕ → List ℕ
other_width_said line cells width = bytes "line " ++ decimal_of line ++ bytes ": " ++ cells_said cells ++ bytes ", where line 1 has " ++ decimal_of width

abbrev pub first_width_said : ℕ → List ℕ → List ℕ
first_width_said cells why = bytes "line 1: " ++ cells_said cells ++ why

abbrev pub void_said : ℕ → ℕ → ℕ → ℕ → List ℕ
void_said rule field low high =
    bytes "line " ++ decimal_of (rule + 1) ++ bytes ", field " ++ decimal_of (field + 1) ++ bytes ": low " ++ decimal_of low ++ bytes " is above high " ++ decimal_of high

-- nothing where there is none
abbrev pub flaw_said : List ℕ → Option Flaw → List ℕ
flaw_said path None = []
flaw_said path (Some NoLine) = bytes "no line, where each is a rule of 2 to 16 cells"
flaw_said path (Some (NotNumber line cell)) = bad_cell_said line cell
flaw_said path (Some LoneFeed) = feed_said path
flaw_said path (Some (OtherWidth line cells width)) = other_width_said line cells width
flaw_said path (Some (OddWidth cells)) = first_width_said cells (bytes ", where a rule has two for each field")
flaw_said path (Some (TooWide cells)) = first_width_said cells (bytes ", where a rule has at most 16")
flaw_said path (Some TooManyRules) = bytes "line 1025: more than 1,024 rules"
flaw_said path (Some (LowAboveHigh rule field low high)) = void_said rule field low high

-- ---- what a program says of a file
-- the program's name and the file's
abbrev pub named_said : List ℕ → List ℕ → List ℕ
named_said program path = program ++ bytes ": " ++ path

-- a line: which file, where in it, and what is wrong there
abbrev pub complaint_said : List ℕ → List ℕ → Option Flaw → List ℕ
complaint_said program path flaw = named_said program path ++ bytes ": " ++ flaw_said path flaw ++ bytes "\n"
