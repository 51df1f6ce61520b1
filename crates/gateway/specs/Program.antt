-- 01, The program: what is printed for the bytes of the rules file and of the headers file, and what is said of their flaws. A file that
-- can't be opened counts as empty.
-- `program_of` says it of the files' lines. `served` says it as the code goes: both files come in pieces, which the functions on slices
-- take one after the other, and what each puts is written. That the two agree is `program_is` of `proofs/Theorems.antt`.
-- Assumes nothing: these are definitions.
use Rattle.std.specs.Prelude.{ℕ, List, [], ◌∷◌, ◌++◌, take, eqb, is_none}
use Rattle.ranges.specs.Numbers.{pick}
use Rattle.lists.specs.Rules.{Rules}
use Rattle.lists.specs.Headers.{zeros}
use Rattle.sorting.specs.Table.{built_table}
use Rattle.text.specs.Cells.{fed}
use Rattle.text.specs.Files.{lines_of, InFile}
use Rattle.text.specs.Judging.{Judged, Over}
use Rattle.rulesfile.specs.Faults.{rules_from, rules_fault}
use Rattle.rulesfile.specs.Bytes.{no_rules, rules_in_file, rules_pieces}
use Rattle.rulesfile.specs.Tabled.{list_read, room_read, tabled_flaw, tabled_after}
use Rattle.rulesfile.specs.declared.file.RulesSoFar.{RulesSoFar}
use Rattle.answers.specs.Said.{head_said, refused_said}
use Rattle.answers.specs.HeaderLines.{lines_said}
use Rattle.gateway.specs.HeaderBytes.{no_headers, Answered, headers_in_file, headers_step, headers_end}
use Rattle.answers.specs.Opened.{opened_said}
use Rattle.gateway.specs.Serving.{quiet}

-- ---- by the files' lines
-- when the rules stand: the first line, and a line for each header line
abbrev pub answers_said : Rules → List (List ℕ) → List ℕ
answers_said R headers = head_said ++ lines_said R (built_table R) headers

-- a fault in the rules prints the single line refused,NUMBER and ends
unfoldable pub program_of : List ℕ → List ℕ → List ℕ
program_of rules headers =
    pick (eqb (rules_fault (lines_of rules)) 0) (answers_said (rules_from (lines_of rules)) (lines_of headers)) (refused_said (rules_fault (lines_of rules)))

-- ---- as the code goes
-- the headers file's pieces one after the other, and its end: what each prints is written, and the next goes on from the state then
abbrev pub pieces_said : Rules → List ℕ → InFile (Over Answered) → List (List ℕ) → List ℕ
pieces_said R T s [] = (headers_end R T s).said
pieces_said R T s (p ∷ ps) = (fed (headers_step R T) s p).at.own.said ++ pieces_said R T (quiet (fed (headers_step R T) s p)) ps

-- rules that have been read: their refusal, or the first line and the answers
abbrev pub served_by : Judged RulesSoFar → List ℕ → List (List ℕ) → List ℕ
served_by y table headers =
    opened_said (tabled_flaw y.own y.run table)
    ++ pick (is_none (tabled_flaw y.own y.run table))
    (pieces_said (list_read y.own y.run) (take (room_read y.own table) (tabled_after y.own y.run table)) (headers_in_file no_headers zeros []) headers)
    []

-- all that is written, for pieces of the two files, a list and a table that hold anything at first
abbrev pub served : List ℕ → List ℕ → List (List ℕ) → List (List ℕ) → List ℕ
served list table rules headers = served_by (rules_pieces (rules_in_file no_rules list) rules) table headers
