-- Laws of the limits (`specs/Limits.antt`).
--     table_most_lem, table_run      the code's number for the most of a table, and a run of at most that many
--     lists_heard, choices_heard, tables_heard, answers_fit      the longest list, choice and table are within the limits, and an answer within its run
-- Assumes nothing.
use Prim.Native.Nat.{ℕ, ◌<◌}
use mathlib.Core.List.{List}
use mathlib.Core.Path.{◌≡◌, ap, sym, ◌∙◌}
use native.Mathlib.Omega.{arith}
use Rattle.std.specs.Prelude.{Option}
use Rattle.lists.specs.Limits.{most_rules, most_numbers}
use Rattle.tables.specs.Layout.{most_table}
use Rattle.tables.proofs.Offsets.{most_table_lem}
use Rattle.words.specs.Limits.{past_in, list_most, choice_most, table_most, answer_most, out_room}
use Rattle.words.specs.Parts.{run_end}

pub table_most_lem : table_most ≡ 19500
unfolding table_most
table_most_lem = ap (past_in 500) most_table_lem

-- a run of at most m numbers, where that is the most of a table
pub table_run : {m : ℕ} (ns : List ℕ) (at : ℕ) {run : Option ℕ} → table_most ≡ m → run ≡ run_end m ns at → run ≡ run_end table_most ns at
table_run ns at is ran = ran ∙ ap (λ k. run_end k ns at) (sym is)

-- ---- nothing that the library takes is cut
pub lists_heard : most_numbers < list_most
lists_heard = omega arith

pub choices_heard : most_rules < choice_most
choices_heard = omega arith

pub tables_heard : most_table < table_most
tables_heard = omega (arith, most_table_lem, table_most_lem)

pub answers_fit : answer_most < out_room
answers_fit = omega (arith, table_most_lem)
