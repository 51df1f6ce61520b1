-- A line of calls: words parted by single blanks, the first the call's name and the others numbers, the first of which may have flags;
-- LF ends it. Read byte by byte, as the code goes. `answer_to` of the crate `calls` speaks of a whole line's bytes instead; that the two
-- agree is `line_is` there. 32 is the blank, 58 the colon.
-- Assumes nothing: these are definitions.
use Rattle.std.specs.Prelude.{ℕ, ◌≤◌, ◌≡◌, Bool, true, false, List, length, take, set, eqb, not}
use Rattle.std.specs.List.{take_while}
use Rattle.ranges.specs.Numbers.{pick}
use Rattle.text.specs.Cells.{fed}
use Rattle.text.specs.Rows.{fresh, row_with, row_next, kept_at}
use Rattle.text.specs.Puts.{place_after}
use Rattle.text.specs.declared.row.Row.{Row}
use Rattle.hearing.specs.declared.line.Line.{Line}
use Rattle.hearing.specs.declared.flags.Flags.{Flags}
use Rattle.hearing.specs.declared.flags.Flags.TheVariants.{Without, Read}
use Rattle.hearing.specs.Flags.{flags_with, has_colon}

-- how many bytes stand before the first LF, all of them where there is none
unfoldable pub line_in : List ℕ → ℕ
line_in bs = length (take_while (λ b. not (eqb b 10)) bs)

-- a line as far as its bytes have come, with the runs that its word and its numbers go to
pub record Heard : Type 0 where
  pub line : Line
  pub name : List ℕ
  pub numbers : List ℕ

abbrev pub heard : Line → List ℕ → List ℕ → Heard
heard line name numbers = record { line = line; name = name; numbers = numbers }

-- nothing has been heard
abbrev pub unheard : Line
unheard = record { named = false; length = 0; flags = Without; row = fresh }

abbrev pub line_of : Bool → ℕ → Flags → Row → Line
line_of named k flags row = record { named = named; length = k; flags = flags; row = row }

-- ---- a byte of a number
-- it goes to the number's cell
abbrev pub cell_with : Line → ℕ → Line
cell_with line b = line_of true line.length line.flags (row_with line.row b)

-- the flags are these
abbrev pub flagged : Line → Flags → Line
flagged line flags = line_of true line.length flags line.row

-- of the first number: a colon begins its flags, and what follows belongs to them
abbrev pub first_with : Line → ℕ → Line
first_with line b =
    pick (has_colon line.flags) (flagged line (flags_with line.flags b))
    (pick (eqb b 58) (flagged line (Read 0 0)) (cell_with line b))

unfoldable pub number_with : Line → ℕ → Line
number_with line b = pick (eqb line.row.cells 0) (first_with line b) (cell_with line b)

-- ---- any byte
-- a number ends, takes a byte; the name ends, takes a byte
abbrev pub number_ends : Heard → Heard
number_ends s = heard (line_of true s.line.length s.line.flags (row_next s.line.row)) s.name (kept_at s.line.row 0 s.numbers)

abbrev pub number_takes : Heard → ℕ → Heard
number_takes s b = heard (number_with s.line b) s.name s.numbers

abbrev pub name_ends : Heard → Heard
name_ends s = heard (line_of true s.line.length s.line.flags s.line.row) s.name s.numbers

abbrev pub name_takes : Heard → ℕ → Heard
name_takes s b =
    heard (line_of false (place_after (length s.name) s.line.length 1) s.line.flags s.line.row)
    (set s.name s.line.length b)
    s.numbers

-- one byte, which is no LF
unfoldable pub heard_byte : Heard → ℕ → Heard
heard_byte s b =
    pick s.line.named
    (pick (eqb b 32) (number_ends s) (number_takes s b))
    (pick (eqb b 32) (name_ends s) (name_takes s b))

-- ---- bytes
-- s is the line before the first `count` bytes, t the line after them
pub record HeardFirst (s : Heard) (bytes : List ℕ) (count : ℕ) (t : Heard) : Type 0 where
  pub few : count ≤ length bytes
  pub left : t ≡ fed heard_byte s (take count bytes)
