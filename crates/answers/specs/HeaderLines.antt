-- 01, The program: the headers file, line by line. A header line that is bad or hasn't d cells prints refused,8 in its
-- place, and the next line is read; any other is looked up.
-- Assumes nothing: these are definitions.
use Rattle.std.specs.Prelude.{ℕ, suc, ◌+◌, Bool, List, [], ◌∷◌, ◌++◌, length, take, eqb, Option, None, Some, is_some}
use Rattle.ranges.specs.Numbers.{pick, ◌and◌}
use Rattle.ranges.specs.Refusals.{number_of}
use Rattle.ranges.specs.declared.refusal.Cause.TheVariants.{BadLine}
use Rattle.lists.specs.Rules.{Rules, fields_of}
use Rattle.lookup.specs.Lookup.{lookup_of}
use Rattle.lists.specs.Headers.{header_length, zeros}
use Rattle.text.specs.Rows.{all_numbers, values_of, bad_in, many_more}
use Rattle.text.specs.Lines.{cells_of, feed_in}
use Rattle.answers.specs.Said.{refused_said, looked_said}
use Rattle.answers.specs.declared.answer.HeaderFlaw.{HeaderFlaw}
use Rattle.answers.specs.declared.count.RefusedLines.{RefusedLines}
use Rattle.answers.specs.declared.answer.HeaderFlaw.TheVariants.{NotNumber, LoneFeed, OtherWidth}

-- why a line is refused, for rules of d fields: whether an LF stands in it, its first cell that is no number, and its count of cells
abbrev pub header_flaw : ℕ → Bool → Option ℕ → ℕ → Option HeaderFlaw
header_flaw d feed None k = pick (eqb k d) None (Some (OtherWidth k))
header_flaw d feed (Some bad) k = Some (pick feed LoneFeed (NotNumber bad))

-- what is printed for a line with such a flaw that makes this header
abbrev pub answer_said : Rules → List ℕ → Option HeaderFlaw → List ℕ → List ℕ
answer_said R T None h = looked_said number_of (lookup_of R T h)
answer_said R T (Some flaw) h = refused_said (number_of BadLine)

-- ---- a whole line
-- the header of a line's cells: their numbers, and zeros past them
abbrev pub header_of : List (List ℕ) → List ℕ
header_of cells = take header_length (values_of cells ++ zeros)

-- what is printed for it: a line that is bad or hasn't d cells prints refused,8
abbrev pub line_said : Rules → List ℕ → List ℕ → List ℕ
line_said R T line =
    pick (all_numbers (cells_of line) and eqb (length (cells_of line)) (fields_of R)) (looked_said number_of (lookup_of R T (header_of (cells_of line)))) (refused_said (number_of BadLine))

-- what is printed for lines one after the other
abbrev pub lines_said : Rules → List ℕ → List (List ℕ) → List ℕ
lines_said R T [] = []
lines_said R T (l ∷ ls) = line_said R T l ++ lines_said R T ls

-- why it is refused, with its cells counted as the reader does
abbrev pub flaw_on : ℕ → List ℕ → Option HeaderFlaw
flaw_on d line = header_flaw d (feed_in line) (bad_in 0 (cells_of line)) (many_more 0 (cells_of line))

-- ---- lines that are refused
-- how many
abbrev pub refused_in : ℕ → List (List ℕ) → ℕ
refused_in d [] = 0
refused_in d (l ∷ ls) = pick (is_some (flaw_on d l)) (suc (refused_in d ls)) (refused_in d ls)

abbrev pub refused_lines : ℕ → ℕ → Option HeaderFlaw → RefusedLines
refused_lines count first flaw = record { count = count; first = first; flaw = flaw }

-- line i, before so many more that are refused
abbrev pub refused_from : Option HeaderFlaw → ℕ → ℕ → Option RefusedLines → Option RefusedLines
refused_from None i more rest = rest
refused_from (Some flaw) i more rest = Some (refused_lines (1 + more) i (Some flaw))

-- of lines after i lines: how many are refused, the number of the first, counted from 1, and why it is
abbrev pub refused_among : ℕ → ℕ → List (List ℕ) → Option RefusedLines
refused_among d i [] = None
refused_among d i (l ∷ ls) = refused_from (flaw_on d l) (suc i) (refused_in d ls) (refused_among d (suc i) ls)
