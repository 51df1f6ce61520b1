-- 01, The program: the lines that are printed, each ended by CRLF.
-- Assumes nothing: these are definitions.
use Rattle.std.specs.Prelude.{ℕ, ◌≤◌, List, ◌++◌, length, Option, None, Some, Result, Ok, Err}
use Rattle.ranges.specs.declared.refusal.Refusal.{Refusal}
use Rattle.text.specs.Texts.{bytes}
use Rattle.text.specs.Decimals.{decimal_of}
use Rattle.text.specs.Puts.{Put, Puts}
use Rattle.text.specs.declared.put.Out.{Out}
use Rattle.lookup.specs.declared.lookup.Match.{Match}
use Rattle.lookup.specs.declared.lookup.Looked.{Looked}

-- when the rules stand, the first line is rule,tests
abbrev pub head_said : List ℕ
head_said = bytes "rule,tests\r\n"

-- a fault prints refused,NUMBER
abbrev pub refused_said : ℕ → List ℕ
refused_said number = bytes "refused," ++ decimal_of number ++ bytes "\r\n"

-- the rule, or none; no edge is said
abbrev pub found_said : Option Match → List ℕ
found_said (Some m) = decimal_of m.rule
found_said None = bytes "none"

-- and after it the number of tests
abbrev pub tests_said : ℕ → List ℕ
tests_said tests = bytes "," ++ decimal_of tests ++ bytes "\r\n"

-- the line of a lookup's answer, where number says the number of what refuses it: `number_of` of a row's cause
abbrev pub looked_said : {C : Type 0} → (C → ℕ) → Result Looked (Refusal C) → List ℕ
looked_said number (Ok x) = found_said x.found ++ tests_said x.tests
looked_said number (Err x) = refused_said (number x.cause)

-- the most bytes of a line, its CRLF counted
abbrev pub line_most : ℕ
line_most = 64

-- a line, put from a place of a run on
pub record LineAt (out : List ℕ) (at : ℕ) (line : List ℕ) (after : List ℕ) (next : ℕ) : Type 0 where
  pub put : Put out at line after next
  pub short : length line ≤ line_most

-- the same of a run that is lent with its place
pub record PutLine (old : Out) (line : List ℕ) (new : Out) : Type 0 where
  pub puts : Puts old line new
  pub short : length line ≤ line_most
