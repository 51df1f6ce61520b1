-- What is printed once the rules have been read, before any header.
-- Assumes nothing: these are definitions.
use Rattle.std.specs.Prelude.{ℕ, List, ◌≡◌, Option, None, Some}
use Rattle.std.specs.Result.{result_err}
use Rattle.flaws.specs.Numbered.{flaw_number}
use Rattle.rulesfile.specs.Tabled.{tabled_flaw, tabled_after}
use Rattle.flaws.specs.declared.flaw.Flaw.{Flaw}
use Rattle.rulesfile.specs.declared.file.RulesSoFar.{RulesSoFar}
use Rattle.answers.specs.Said.{head_said, refused_said, LineAt}
use Rattle.answers.specs.declared.open.Opened.{Opened}

-- a flaw is refused by its number; else the first line
abbrev pub opened_said : Option Flaw → List ℕ
opened_said None = head_said
opened_said (Some flaw) = refused_said (flaw_number flaw)

-- the table is built, and that line is put at the front of the run
pub record OpenedWith (rules : RulesSoFar) (list table out : List ℕ) (opened : Opened) (built after : List ℕ) : Type 0 where
  pub flaw : result_err opened.built ≡ tabled_flaw rules list table
  pub builds : built ≡ tabled_after rules list table
  pub prints : LineAt out 0 (opened_said (result_err opened.built)) after opened.at
