-- 01, The program: the rules file, line by line. The first rule line sets the number of cells: odd gives 8, even but not
-- 2 to 16 gives 1; an empty file gives 1. Unreadable numbers on that line give 8, and this is tested first. A later rule
-- line with a bad number or another cell count gives 8; line 1,025 gives 3, whatever stands on it; 4 is looked for after
-- the last line.
-- A fault is its refusal's number, and 0 says that there is none.
-- Assumes nothing: these are definitions.
use Rattle.std.specs.Prelude.{ℕ, ◌+◌, ◌*◌, ◌/◌, ◌%◌, Bool, List, [], ◌∷◌, ◌++◌, length, ltb, leb, eqb}
use Rattle.ranges.specs.Numbers.{pick}
use Rattle.ranges.specs.Refusals.{number_of, number_in}
use Rattle.ranges.specs.declared.refusal.Cause.TheVariants.{BadFields, BadLine, TooManyRules}
use Rattle.lists.specs.Limits.{most_fields, most_rules}
use Rattle.lists.specs.Rules.{Rules, shape_of, listed}
use Rattle.lists.specs.Faults.{list_fault}
use Rattle.text.specs.Rows.{all_numbers, values_of}
use Rattle.text.specs.Lines.{cells_of}

-- the first of two faults
abbrev pub first_fault : ℕ → ℕ → ℕ
first_fault f g = pick (eqb f 0) g f

-- the most cells of a line: two a field
abbrev pub most_cells : ℕ
most_cells = most_fields * 2

-- the number of cells of the first line: odd gives 8, even but not 2 to 16 gives 1
unfoldable pub width_fault : ℕ → ℕ
width_fault k = pick (eqb (k % 2) 1) (number_of BadLine) (pick (ltb most_cells k) (number_of BadFields) 0)

-- a line of k cells, all numbers or not, after i lines, of which the first had w cells
unfoldable pub cells_fault : ℕ → ℕ → Bool → ℕ → ℕ
cells_fault i w good k = pick good (pick (eqb i 0) (width_fault k) (pick (eqb k w) 0 (number_of BadLine))) (number_of BadLine)

-- a line, by what stands on it
abbrev pub own_fault : ℕ → ℕ → List ℕ → ℕ
own_fault i w line = cells_fault i w (all_numbers (cells_of line)) (length (cells_of line))

-- a line after i lines: the 1,025th gives 3, whatever stands on it
abbrev pub line_fault : ℕ → ℕ → List ℕ → ℕ
line_fault i w line = pick (leb most_rules i) (number_of TooManyRules) (own_fault i w line)

-- the first fault of lines after i lines, where the first line has w cells
abbrev pub lines_fault : ℕ → ℕ → List (List ℕ) → ℕ
lines_fault i w [] = 0
lines_fault i w (l ∷ ls) = first_fault (line_fault i w l) (lines_fault (i + 1) w ls)

-- how many cells the first line has, 0 where there is none
abbrev pub width_of : List (List ℕ) → ℕ
width_of [] = 0
width_of (l ∷ ls) = length (cells_of l)

-- the numbers of all lines, one after the other
abbrev pub list_of : List (List ℕ) → List ℕ
list_of [] = []
list_of (l ∷ ls) = values_of (cells_of l) ++ list_of ls

-- the list of rules: half as many fields as cells
abbrev pub rules_from : List (List ℕ) → Rules
rules_from ls = listed (shape_of (width_of ls / 2)) (list_of ls)

-- the fault that is found while the lines are read: 1 where there is none
abbrev pub reading_fault : List (List ℕ) → ℕ
reading_fault [] = number_of BadFields
reading_fault (l ∷ ls) = lines_fault 0 (width_of (l ∷ ls)) (l ∷ ls)

-- the fault of a whole rules file: what is found while its lines are read, and then what the list's check finds, which is 4
abbrev pub rules_fault : List (List ℕ) → ℕ
rules_fault ls = first_fault (reading_fault ls) (number_in (list_fault (rules_from ls)))
