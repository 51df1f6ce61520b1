-- 01, Other answers: a check answers n, the number of rules, unless one of the refusals 1 to 4 applies.
-- Assumes nothing: these are definitions.
use Rattle.std.specs.Prelude.{ℕ, Result}
use Rattle.ranges.specs.Refusals.{Refusal, unless}
use Rattle.lists.specs.Rules.{Rules, rules_in}
use Rattle.lists.specs.Faults.{list_fault}

abbrev pub check_of : Rules → Result ℕ Refusal
check_of R = unless (list_fault R) (rules_in R)
