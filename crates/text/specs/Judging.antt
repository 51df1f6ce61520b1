-- A file of CSV lines as whoever reads it goes: each line is read by the reader (`Lines.antt`), and judged at its end. Y
-- is what the lines that have ended come to; `from y` is the place of the next line's first number; `judge y l` is what
-- the line l, once it has ended, makes of y and of the run that numbers go to.
-- `over_step` and `over_end` say it byte by byte, `judged_lines` line by line; that the two agree is `judged_is` of
-- `proofs/Judging.antt`.
-- Assumes nothing: these are definitions.
use Rattle.std.specs.Prelude.{ℕ, Bool, List, [], ◌∷◌}
use Rattle.text.specs.Files.{InFile, in_file, step, finish}
use Rattle.text.specs.Lines.{no_line, LineNow, line_now, cell_ended, line_byte, whole_line}
use Rattle.text.specs.declared.line.Reader.{Reader}

-- what a line's end leaves: what the lines so far come to, and the run
pub record Judged (Y : Type 0) : Type 0 where
  pub own : Y
  pub run : List ℕ

abbrev pub judged : {Y : Type 0} → Y → List ℕ → Judged Y
judged y run = record { own = y; run = run }

-- within a line: its reader's state beside it
pub record Over (Y : Type 0) : Type 0 where
  pub now : LineNow
  pub own : Y

abbrev pub over : {Y : Type 0} → LineNow → Y → Over Y
over l y = record { now = l; own = y }

abbrev pub over_in : {Y : Type 0} → Reader → List ℕ → Y → InFile (Over Y)
over_in r run y = in_file r.cr (over (line_now r.line run) y)

-- a new line begins
abbrev pub anew : {Y : Type 0} → Judged Y → Over Y
anew j = over (line_now no_line j.run) j.own

-- ---- byte by byte
abbrev pub over_byte : {Y : Type 0} → (Y → ℕ) → Over Y → ℕ → Over Y
over_byte from x b = over (line_byte (from x.own) x.now b) x.own

abbrev pub over_close : {Y : Type 0} → (Y → ℕ) → (Y → LineNow → Judged Y) → Over Y → Over Y
over_close from judge x = anew (judge x.own (cell_ended (from x.own) x.now))

abbrev pub over_begun : {Y : Type 0} → Over Y → Bool
over_begun x = x.now.line.begun

-- one byte of the file
abbrev pub over_step : {Y : Type 0} → (Y → ℕ) → (Y → LineNow → Judged Y) → InFile (Over Y) → ℕ → InFile (Over Y)
over_step from judge = step (over_byte from) (over_close from judge)

-- the file's end
abbrev pub over_end : {Y : Type 0} → (Y → ℕ) → (Y → LineNow → Judged Y) → InFile (Over Y) → Over Y
over_end from judge s = finish (over_byte from) (over_close from judge) over_begun s

-- ---- line by line
abbrev pub judged_lines : {Y : Type 0} → (Y → ℕ) → (Y → LineNow → Judged Y) → Y → List ℕ → List (List ℕ) → Judged Y
judged_lines from judge y run [] = judged y run
judged_lines from judge y run (l ∷ ls) =
    judged_lines from judge (judge y (whole_line (from y) run l)).own (judge y (whole_line (from y) run l)).run ls
