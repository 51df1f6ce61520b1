-- The first flaw of a rules file, and where it is: for each fault of `Faults.antt` the line and the cell that a person looks
-- for. Lines and cells count from 1, rules and fields from 0. Cells are counted as the reader does (`counted_to`).
-- That a flaw's number is the fault's is `flaw_number_is` of `proofs/Theorems.antt`.
-- Assumes nothing: these are definitions.
use Rattle.std.specs.Prelude.{ℕ, ◌+◌, ◌%◌, Bool, List, [], ◌∷◌, ltb, leb, eqb, Option, None, Some, Result, Ok, Err}
use Rattle.std.specs.Option.{option_or}
use Rattle.ranges.specs.Numbers.{pick}
use Rattle.ranges.specs.Refusals.{Refusal}
use Rattle.lists.specs.Limits.{most_rules}
use Rattle.lists.specs.Rules.{Rules, low_of, high_of}
use Rattle.lists.specs.Faults.{list_fault}
use Rattle.text.specs.Rows.{many_more, bad_in}
use Rattle.text.specs.Lines.{cells_of, feed_in}
use Rattle.rulesfile.specs.Faults.{most_cells, rules_from}
use Rattle.flaws.specs.declared.flaw.Flaw.{Flaw}
use Rattle.flaws.specs.declared.flaw.Flaw.TheVariants.{NoLine, NotNumber, LoneFeed, OtherWidth, OddWidth, TooWide, TooManyRules, LowAboveHigh}

-- the first of two flaws
abbrev pub first_flaw : Option Flaw → Option Flaw → Option Flaw
first_flaw f g = option_or f g

-- ---- a line
-- the number of cells of the first line
unfoldable pub width_flaw : ℕ → Option Flaw
width_flaw k = pick (eqb (k % 2) 1) (Some (OddWidth k)) (pick (ltb most_cells k) (Some (TooWide k)) None)

-- a line after i lines, of which the first has w cells: whether an LF stands in it, its first cell that is no number, and its count of cells
abbrev pub cells_flaw : ℕ → ℕ → Bool → Option ℕ → ℕ → Option Flaw
cells_flaw i w feed None k = pick (eqb i 0) (width_flaw k) (pick (eqb k w) None (Some (OtherWidth (i + 1) k w)))
cells_flaw i w feed (Some bad) k = Some (pick feed LoneFeed (NotNumber (i + 1) bad))

-- line 1,025 is one too many, whatever stands on it
unfoldable pub line_flaw : ℕ → ℕ → Bool → Option ℕ → ℕ → Option Flaw
line_flaw i w feed bad k = pick (leb most_rules i) (Some TooManyRules) (cells_flaw i w feed bad k)

-- how many cells a line has, as the reader counts
abbrev pub count_in : List ℕ → ℕ
count_in line = many_more 0 (cells_of line)

-- a whole line
abbrev pub flaw_on : ℕ → ℕ → List ℕ → Option Flaw
flaw_on i w line = line_flaw i w (feed_in line) (bad_in 0 (cells_of line)) (count_in line)

-- ---- a file
-- the first flaw of lines after i lines, where the first line has w cells
abbrev pub lines_flaw : ℕ → ℕ → List (List ℕ) → Option Flaw
lines_flaw i w [] = None
lines_flaw i w (l ∷ ls) = first_flaw (flaw_on i w l) (lines_flaw (i + 1) w ls)

-- what is found while the lines are read
abbrev pub reading_flaw : List (List ℕ) → Option Flaw
reading_flaw [] = Some NoLine
reading_flaw (l ∷ ls) = lines_flaw 0 (count_in l) (l ∷ ls)

-- what a list's check finds after that: low > high, of which rule and field, and both numbers
abbrev pub flaw_at : Rules → Refusal → Flaw
flaw_at R x = LowAboveHigh x.at x.then (low_of R x.at x.then) (high_of R x.at x.then)

-- whatever refuses a list is given as that flaw
abbrev pub refused_flaw : {A : Type 0} → Rules → Result A Refusal → Option Flaw
refused_flaw R (Ok a) = None
refused_flaw R (Err x) = Some (flaw_at R x)

abbrev pub list_flaw : Rules → Option Flaw
list_flaw R = refused_flaw R (list_fault R)

-- a whole rules file
abbrev pub file_flaw : List (List ℕ) → Option Flaw
file_flaw ls = first_flaw (reading_flaw ls) (list_flaw (rules_from ls))
