-- Laws of the rules file byte by byte (`specs/Bytes.antt`), way by way.
--     judged_kept, judged_flawed, judged-fine      the rules after a line
--     Few, fine_few                                a line without flaw leaves counts of 16 bits
--     took_open, took_ends                         bytes to the end of the present line
--     end_stays, end_judged                        the file's end
-- Assumes nothing.
use Prim.Native.Nat.{ℕ, ◌+◌, ◌<◌}
use mathlib.Core.Bool.{Bool, true, false}
use mathlib.Core.List.{List}
use mathlib.Core.Path.{◌≡◌, refl, ap, ◌∙◌}
use native.Mathlib.Omega.{arith}
use borrow.Author.Tests.{eqb-true, eqb-false}
use lib.Dec.{eqb}
use Rattle.std.specs.Prelude.{None, Some}
use Rattle.lists.specs.Limits.{most_rules}
use Rattle.text.specs.Lines.{no_bytes, TookLine, TookLast}
use Rattle.text.specs.Judging.{judged}
use Rattle.text.specs.declared.line.Line.{Line}
use Rattle.text.specs.declared.line.Reader.{Reader}
use Rattle.text.specs.declared.line.LineRead.{LineRead}
use Rattle.text.proofs.Judging.{over_open, over_ends, over_stays, over_last}
use Rattle.rulesfile.specs.Bytes.{rules_so_far, line_at, flaw_here, judged_by, judge_rules, rules_in_file, rules_end, RulesTook}
use Rattle.flaws.specs.declared.flaw.Flaw.{Flaw}
use Rattle.rulesfile.specs.declared.file.RulesSoFar.{RulesSoFar}
use Rattle.rulesfile.specs.declared.file.RulesFile.{RulesFile}
use Rattle.rulesfile.proofs.Flaws.{Fine, fine_line}

-- ---- the rules after a line
module _ (r : RulesSoFar) (l : Line) where
  pub judged_kept : {f : Flaw} → r.flaw ≡ Some f → judged_by r l ≡ r
  unfolding judged_by
  judged_kept flawed = rw flawed

  module _ (none : r.flaw ≡ None) where
    pub judged_flawed : {f : Flaw} → flaw_here r l ≡ Some f → judged_by r l ≡ rules_so_far r.lines r.width (Some f)
    unfolding judged_by
    judged_flawed flawed = rw (none, flawed)

    pub judged-fine : flaw_here r l ≡ None → judged_by r l ≡ rules_so_far (r.lines + 1) l.row.cells None
    unfolding judged_by
    judged-fine fine = rw (none, fine)

-- a line without flaw leaves counts of 16 bits
pub record Few (lines cells : ℕ) : Type 0 where
  pub few : lines < most_rules
  pub narrow : cells < 65536

pub fine_few : (r : RulesSoFar) (l : Line) → r.width < 65536 → flaw_here r l ≡ None → Few r.lines l.row.cells
fine_few r l narrow fine = record { few = is.few; narrow = go (eqb r.lines 0) refl }
  where
    is : Fine r.lines r.width l.row.bad l.row.cells
    is = fine_line r.lines r.width l.feed l.row.bad l.row.cells fine

    go : (t : Bool) → eqb r.lines 0 ≡ t → l.row.cells < 65536
    go true e = let few = is.first (eqb-true r.lines 0 e) in omega arith
    go false e = let same = is.later (eqb-false r.lines 0 e) in omega arith

-- ---- bytes to the end of the present line
module _ (f : RulesFile) (bytes list : List ℕ) {read : LineRead} {after : List ℕ} {from : ℕ} (is : from ≡ line_at f.rules) (took : TookLine from f.reader bytes list read after) where
  took_here : TookLine (line_at f.rules) f.reader bytes list read after
  took_here = rw is at took

  pub took_open : read.ended ≡ false → RulesTook f bytes list (record { file = record { reader = read.reader; rules = f.rules }; used = read.used }) after
  took_open goes =
      record { used = took.used; file = over_open line_at judge_rules f.rules f.reader bytes list took_here goes }

  pub took_ends : read.ended ≡ true → {start : Reader} {rules : RulesSoFar} → start ≡ no_bytes → rules ≡ judged_by f.rules read.reader.line
      → RulesTook f bytes list (record { file = record { reader = start; rules = rules }; used = read.used }) after
  took_ends ends begins judges =
      record { used = took.used; file = rw (begins, judges) (over_ends line_at judge_rules f.rules f.reader bytes list took_here ends) }

-- ---- the file's end
module _ (f : RulesFile) (list : List ℕ) {read : LineRead} {after : List ℕ} {from : ℕ} (is : from ≡ line_at f.rules) (took : TookLast from f.reader list read after) where
  last_here : TookLast (line_at f.rules) f.reader list read after
  last_here = rw is at took

  pub end_stays : read.ended ≡ false → judged f.rules after ≡ rules_end (rules_in_file f list)
  end_stays none = ap (λ x. judged x.own x.now.run) (over_stays line_at judge_rules f.rules f.reader list last_here none)

  pub end_judged : read.ended ≡ true → {rules : RulesSoFar} → rules ≡ judged_by f.rules read.reader.line → judged rules after ≡ rules_end (rules_in_file f list)
  end_judged some judges =
      ap (λ r. judged r after) judges ∙ ap (λ x. judged x.own x.now.run) (over_last line_at judge_rules f.rules f.reader list last_here some)
