-- The answers that the check does not find alone.
use mathlib.Core.Path.{◌∙◌}
use Rattle.words.proofs.Longest.{table_most_lem, table_run}
use Rattle.words.proofs.Parts.{tables_cut, tables_are}
use Rattle.words.proofs.part.table_ends.Goals as goal

-- no table
pub returns-in_err-t : goal.returns-in_err-t
returns-in_err-t c =
    c.from_residual-in_err-t.ensures
    ∙ tables_cut _ _ c.in_ok-e.ensures (table_run _ _ table_most_lem c.run_end-2.ensures) c.in_err-t.ensures

-- a table
pub returns : goal.returns
returns c =
    c.then_some.ensures
    ∙ tables_are _ _ c.in_ok-e.ensures (table_run _ _ table_most_lem c.run_end-2.ensures) c.in_ok-t.ensures _ c.all_narrow.ensures
