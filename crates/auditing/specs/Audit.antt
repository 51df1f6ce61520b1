-- 02, W4, and 01, Other answers: what an audit answers. It refuses by 1, 2, 3, 4, 5 in this order, as a build does, and never by 6.
-- That yes is said exactly where some run makes a laying out write this table is `audit_yes_iff`.
-- Assumes nothing: these are definitions.
use Rattle.std.specs.Prelude.{ℕ, Bool, List, [], ◌∷◌, Result}
use Rattle.ranges.specs.Numbers.{bit, ◌and◌, same_list}
use Rattle.ranges.specs.Refusals.{Refusal, stands, unless, Said, says}
use Rattle.lists.specs.Rules.{Rules}
use Rattle.sorting.specs.Table.{table_of}
use Rattle.sorting.specs.Build.{build_fault}
use Rattle.sorting.specs.Brought.{run_fault}
use Rattle.auditing.specs.ReadOff.{read_off}

-- 15 to 18 do not apply to the run read off the table, and every number of the table is that of this run's
unfoldable pub is_laid : Rules → List ℕ → Bool
is_laid R T = stands (run_fault R (read_off R T)) and same_list T (table_of R (read_off R T))

-- yes (true) where the run read off makes the table, else no, unless something is refused
abbrev pub audit_of : Rules → List ℕ → Result Bool Refusal
audit_of R T = unless (build_fault R T) (is_laid R T)

-- what the answer says in the paper's words: 1 for yes, 0 for no
abbrev pub says_verdict : Result Bool Refusal → Said
says_verdict verdict = says (λ t. bit t ∷ []) verdict
