-- Header lines counted one after the other, as the code goes: how many there are, how many of them are refused, which of those is the first,
-- and why. That this is what `HeaderLines.antt` says of lines is `counted_is` of `proofs/Counting.antt`.
-- Assumes nothing: these are definitions.
use Rattle.std.specs.Prelude.{ℕ, ◌+◌, ltb, eqb, Option, None, Some}
use Rattle.ranges.specs.Numbers.{pick}
use Rattle.answers.specs.HeaderLines.{refused_lines}
use Rattle.answers.specs.declared.answer.HeaderFlaw.{HeaderFlaw}
use Rattle.answers.specs.declared.count.RefusedLines.{RefusedLines}
use Rattle.answers.specs.declared.count.HeadersSoFar.{HeadersSoFar}

abbrev pub headers_so_far : ℕ → Option RefusedLines → HeadersSoFar
headers_so_far lines refused = record { lines = lines; refused = refused }

-- no line
abbrev pub no_lines : HeadersSoFar
no_lines = headers_so_far 0 None

-- the most that a word counts
abbrev pub most_count : ℕ
most_count = 18446744073709551615

-- one more, up to there
unfoldable pub one_up : ℕ → ℕ
one_up n = pick (ltb n most_count) (n + 1) n

-- the refused lines after line i: the first stays the first, where there was one
abbrev pub refused_by : ℕ → Option RefusedLines → Option HeaderFlaw → Option RefusedLines
refused_by i r None = r
refused_by i None (Some flaw) = Some (refused_lines 1 i (Some flaw))
refused_by i (Some r) (Some flaw) = Some (pick (eqb r.count 0) (refused_lines 1 i (Some flaw)) (refused_lines (one_up r.count) r.first r.flaw))

-- a line that has ended is counted
abbrev pub counted_by : HeadersSoFar → Option HeaderFlaw → HeadersSoFar
counted_by h flaw = headers_so_far (one_up h.lines) (refused_by (one_up h.lines) h.refused flaw)
