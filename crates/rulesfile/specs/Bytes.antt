-- The rules file byte by byte, as the code goes: what has been read of it, held by value, and the list that its numbers go
-- to. Each line is read by the reader of the crate text and judged at its end. That this comes to what `Faults.antt` and
-- `Flaws.antt` say of the file's lines is `rules-read` of `proofs/Theorems.antt`.
-- Assumes nothing: these are definitions.
use Rattle.std.specs.Prelude.{ℕ, ◌+◌, ◌*◌, List, [], ◌∷◌, ◌≡◌, take, Option, None, is_none}
use Rattle.ranges.specs.Numbers.{pick}
use Rattle.text.specs.Cells.{fed}
use Rattle.text.specs.Files.{InFile, line_in}
use Rattle.text.specs.Lines.{no_bytes, LineNow}
use Rattle.text.specs.Judging.{Judged, judged, Over, over_in, over_step, over_end}
use Rattle.text.specs.declared.line.Line.{Line}
use Rattle.rulesfile.specs.Flaws.{line_flaw}
use Rattle.flaws.specs.declared.flaw.Flaw.{Flaw}
use Rattle.rulesfile.specs.declared.file.RulesSoFar.{RulesSoFar}
use Rattle.rulesfile.specs.declared.file.RulesFile.{RulesFile}
use Rattle.rulesfile.specs.declared.file.RulesStep.{RulesStep}

abbrev pub rules_so_far : ℕ → ℕ → Option Flaw → RulesSoFar
rules_so_far lines width flaw = record { lines = lines; width = width; flaw = flaw }

-- nothing has been read
abbrev pub no_rules : RulesFile
no_rules = record { reader = no_bytes; rules = rules_so_far 0 0 None }

-- a line's first number goes past those of the lines before it
abbrev pub line_at : RulesSoFar → ℕ
line_at r = r.lines * r.width

-- after a line that has ended: the first flaw is kept
abbrev pub flaw_here : RulesSoFar → Line → Option Flaw
flaw_here r l = line_flaw r.lines r.width l.feed l.row.bad l.row.cells

unfoldable pub judged_by : RulesSoFar → Line → RulesSoFar
judged_by r l =
    pick (is_none r.flaw)
    (pick (is_none (flaw_here r l)) (rules_so_far (r.lines + 1) l.row.cells None) (rules_so_far r.lines r.width (flaw_here r l)))
    r

abbrev pub judge_rules : RulesSoFar → LineNow → Judged RulesSoFar
judge_rules r l = judged (judged_by r l.line) l.run

-- ---- the file, with the list
abbrev pub rules_in_file : RulesFile → List ℕ → InFile (Over RulesSoFar)
rules_in_file f list = over_in f.reader list f.rules

-- one byte
abbrev pub rules_step : InFile (Over RulesSoFar) → ℕ → InFile (Over RulesSoFar)
rules_step = over_step line_at judge_rules

-- the file's end
abbrev pub rules_end : InFile (Over RulesSoFar) → Judged RulesSoFar
rules_end s = judged (over_end line_at judge_rules s).own (over_end line_at judge_rules s).now.run

-- bytes to the end of the present line
pub record RulesTook (f : RulesFile) (bytes list : List ℕ) (r : RulesStep) (after : List ℕ) : Type 0 where
  pub used : r.used ≡ line_in f.reader.cr bytes
  pub file : rules_in_file r.file after ≡ fed rules_step (rules_in_file f list) (take r.used bytes)

-- ---- in pieces, as a program reads them: after a flaw nothing more is read
abbrev pub rules_pieces : InFile (Over RulesSoFar) → List (List ℕ) → Judged RulesSoFar
rules_pieces s [] = rules_end s
rules_pieces s (p ∷ ps) = pick (is_none (fed rules_step s p).at.own.flaw) (rules_pieces (fed rules_step s p) ps) (rules_end (fed rules_step s p))
