-- The number that 01 refuses a flaw of a rules file by.
-- Assumes nothing: these are definitions.
use Rattle.std.specs.Prelude.{ℕ, Option, None, Some}
use Rattle.ranges.specs.Refusals.{number_of}
use Rattle.ranges.specs.declared.refusal.Cause.TheVariants.{BadFields, BadLine, TooManyRules as Many, LowAboveHigh as Void}
use Rattle.flaws.specs.declared.flaw.Flaw.{Flaw}
use Rattle.flaws.specs.declared.flaw.Flaw.TheVariants.{NoLine, NotNumber, LoneFeed, OtherWidth, OddWidth, TooWide, TooManyRules, LowAboveHigh}

-- the number that 01 refuses a flaw by
abbrev pub flaw_number : Flaw → ℕ
flaw_number NoLine = number_of BadFields
flaw_number (NotNumber line cell) = number_of BadLine
flaw_number LoneFeed = number_of BadLine
flaw_number (OtherWidth line cells width) = number_of BadLine
flaw_number (OddWidth cells) = number_of BadLine
flaw_number (TooWide cells) = number_of BadFields
flaw_number TooManyRules = number_of Many
flaw_number (LowAboveHigh rule field low high) = number_of Void

-- the same of what may be none: 0 for none
abbrev pub number_of_flaw : Option Flaw → ℕ
number_of_flaw None = 0
number_of_flaw (Some flaw) = flaw_number flaw
