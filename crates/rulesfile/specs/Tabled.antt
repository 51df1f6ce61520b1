-- What becomes of the rules once their file has ended: the table of their list, built once, or a flaw.
-- For a list and a run for the table that are long enough this is the list of the file's lines and the table of the build;
-- that is `tabled_is` of `proofs/Theorems.antt`.
-- Assumes nothing: these are definitions.
use Rattle.std.specs.Prelude.{ℕ, ◌*◌, ◌/◌, min, List, ◌++◌, ◌≡◌, length, take, drop, eqb, ⊤, Option, Some, is_none, Result}
use Rattle.std.specs.Result.{result_err}
use Rattle.ranges.specs.Numbers.{pick}
use Rattle.lists.specs.Rules.{Rules, shape_of, listed}
use Rattle.tables.specs.Layout.{table_length}
use Rattle.sorting.specs.Build.{build_of, table_after}
use Rattle.rulesfile.specs.Flaws.{first_flaw, refused_flaw}
use Rattle.flaws.specs.declared.flaw.Flaw.{Flaw}
use Rattle.flaws.specs.declared.flaw.Flaw.TheVariants.{NoLine}
use Rattle.rulesfile.specs.declared.file.RulesSoFar.{RulesSoFar}

-- how many numbers the lines have brought, no more than the list has
abbrev pub length_read : RulesSoFar → List ℕ → ℕ
length_read r list = min (r.lines * r.width) (length list)

-- the list: half as many fields as a line has cells
abbrev pub list_read : RulesSoFar → List ℕ → Rules
list_read r list = listed (shape_of (r.width / 2)) (take (length_read r list) list)

-- how many numbers its table takes, no more than are lent
abbrev pub room_read : RulesSoFar → List ℕ → ℕ
room_read r table = min (table_length r.lines (r.width / 2)) (length table)

-- the flaw of the rules
unfoldable pub tabled_flaw : RulesSoFar → List ℕ → List ℕ → Option Flaw
tabled_flaw r list table =
    first_flaw r.flaw
    (pick (eqb r.lines 0) (Some NoLine) (refused_flaw (list_read r list) (build_of (list_read r list) (take (room_read r table) table))))

-- and the run for the table afterwards
unfoldable pub tabled_after : RulesSoFar → List ℕ → List ℕ → List ℕ
tabled_after r list table =
    pick (is_none r.flaw)
    (pick (eqb r.lines 0) table (table_after (list_read r list) (take (room_read r table) table) ++ drop (room_read r table) table))
    table

pub record Tabled (r : RulesSoFar) (list table : List ℕ) (built : Result ⊤ Flaw) (after : List ℕ) : Type 0 where
  pub finds : result_err built ≡ tabled_flaw r list table
  pub leaves : after ≡ tabled_after r list table
