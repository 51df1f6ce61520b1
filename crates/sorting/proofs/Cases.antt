-- 01, A small bench list, with 02, W5: the table of the bench list (B1) and of the empty list (B9), worked out from the definitions; and both
-- keep the promise, which is so not empty.
--     b1, b9                          the tables
--     b1_keeps_promise, b9_keeps_promise
-- Assumes nothing.
use Prim.Native.Nat.{ℕ}
use mathlib.Core.List.{List, [], ◌∷◌, ◌++◌}
use mathlib.Core.Path.{◌≡◌, refl, ap, ◌∙◌, subst}
use Rattle.ranges.specs.Numbers.{all, count, least, greatest, tab}
use Rattle.ranges.specs.Refusals.{none}
use Rattle.ranges.specs.Sides.{end_of, past_of}
use Rattle.lists.specs.Rules.{Rules, shape_of, flag_of, dates_in, listed, is_date, rules_in, offset_of, low_of, high_of, ends_at}
use Rattle.lists.specs.Faults.{shape_fault, bad_rule, ends_fault, list_fault}
use Rattle.ranges.specs.Standings.{standing_of}
use Rattle.ordering.specs.Order.{compare}
use Rattle.sorting.specs.FirstFit.{fit_of, first_fit, parts}
use Rattle.sorting.specs.Table.{place_of, rule_at, start_of, least_of, run_from, run_to, table_of, built_table}
use Rattle.tables.specs.Opening.{view_of}
use Rattle.sorting.specs.Promise.{Promise}
use Rattle.sorting.proofs.Sorted.Built.{list_keeps_promise}

-- d = 2 (model, serial), n = 5
abbrev pub bench : Rules
bench =
    listed (shape_of 2)
    (7 ∷ 7 ∷ 100 ∷ 100 ∷ 7 ∷ 7 ∷ 200 ∷ 299 ∷ 8 ∷ 8 ∷ 0 ∷ 999 ∷ 7 ∷ 7 ∷ 0 ∷ 999 ∷ 0 ∷ 9 ∷ 0 ∷ 999 ∷ [])

-- its whole table, 39 numbers, with a line where the paper has a bar
abbrev pub bench_table : List ℕ
bench_table =
    (5 ∷ 2 ∷ 3 ∷ [])
    ++ (0 ∷ 1 ∷ 2 ∷ 3 ∷ 4 ∷ [])
    ++ (0 ∷ 3 ∷ 4 ∷ 5 ∷ 0 ∷ 0 ∷ [])
    ++ (0 ∷ 3 ∷ 4 ∷ 0 ∷ 0 ∷ [])
    ++ (0 ∷ 0 ∷ 0 ∷ 1 ∷ 2 ∷ 2 ∷ 3 ∷ 3 ∷ 4 ∷ 4 ∷ [])
    ++ (2 ∷ 1 ∷ 2 ∷ 2 ∷ 3 ∷ 3 ∷ 4 ∷ 4 ∷ 5 ∷ 5 ∷ [])

-- n = 0, d = 1, and its table
abbrev pub empty : Rules
empty = listed (shape_of 1) []

abbrev pub empty_table : List ℕ
empty_table = 0 ∷ 1 ∷ 0 ∷ 0 ∷ []

-- first fit of the bench list: rules 0, 1 and 2 share partition 0
abbrev pub bench_choice : List ℕ
bench_choice = 0 ∷ 0 ∷ 0 ∷ 1 ∷ 2 ∷ []

pub bench_choice_lem : first_fit bench (rules_in bench) ≡ bench_choice
unfolding rules_in first_fit fit_of all least tab compare standing_of end_of past_of flag_of dates_in is_date low_of high_of ends_at offset_of
bench_choice_lem = refl

bench_table_lem : table_of bench bench_choice ≡ bench_table
unfolding table_of rules_in parts rule_at place_of start_of least_of run_from run_to count least greatest tab compare standing_of end_of past_of flag_of dates_in is_date low_of high_of ends_at offset_of
bench_table_lem = refl

-- ---- the tables
pub b1 : built_table bench ≡ bench_table
b1 = ap (table_of bench) bench_choice_lem ∙ bench_table_lem

pub b9 : built_table empty ≡ empty_table
unfolding table_of rules_in first_fit parts start_of count tab
b9 = refl

-- ---- they keep the promise: neither list meets one of 1 to 4
bench-stands : list_fault bench ≡ none
unfolding shape_fault ends_fault bad_rule rules_in all least tab end_of past_of flag_of dates_in is_date low_of high_of ends_at offset_of
bench-stands = refl

empty_stands : list_fault empty ≡ none
unfolding shape_fault ends_fault bad_rule rules_in least
empty_stands = refl

pub b1_keeps_promise : Promise bench (view_of bench bench_table)
b1_keeps_promise = subst (λ T. Promise bench (view_of bench T)) b1 (list_keeps_promise bench bench-stands)

pub b9_keeps_promise : Promise empty (view_of empty empty_table)
b9_keeps_promise = subst (λ T. Promise empty (view_of empty T)) b9 (list_keeps_promise empty empty_stands)
