-- 01, A small bench list, with 02, W5: the marked cases B1 to B12, as one table of rows and one statement about the definitions.
-- A row has its mark, what a definition gives, and what 01 writes; both as numbers. Of a lookup these are what the answer says in the
-- paper's words (`says_looked`): the refusal's number and place, then 1, the rule, the tests and 1 at an edge, or 0, the tests and 0. 01 writes
-- no edge: by 02, W2, each of B2 to B6 is at one, 7-7, 8-8 or 0-9 being met at an end, and B7 and B8 find none.
-- B9's "any header" is no row: it is said of every header, beside the table. B10 to B12 are about prefixes (`ranges`).
-- Assumes nothing.
use Prim.Native.Nat.{ℕ}
use mathlib.Core.Bool.{Bool, true}
use mathlib.Core.List.{List, [], ◌∷◌}
use mathlib.Core.Path.{◌≡◌, refl}
use lib.Dec.{T}
use Rattle.ranges.specs.Numbers.{◌and◌, same_list, all, any, count, least, greatest, tab}
use Rattle.ranges.specs.Refusals.{Said}
use Rattle.ranges.specs.Spots.{spot_of}
use Rattle.ranges.specs.Sides.{end_of, past_of, side_of}
use Rattle.ranges.specs.Prefixes.{prefix_fault, bounds_of, says_bounds}
use Rattle.ranges.specs.Blocks.{block_fits, block_of, prefixes_from, prefixes_of, flat}
use Rattle.lists.specs.Rules.{flag_of, dates_in, is_date, rules_in, offset_of, low_of, high_of, ends_at}
use Rattle.lists.specs.FirstMatch.{fits}
use Rattle.lists.specs.Edges.{edge_of}
use Rattle.lists.specs.Faults.{shape_fault}
use Rattle.ranges.specs.Standings.{standing_of}
use Rattle.ordering.specs.Order.{compare}
use Rattle.sorting.specs.FirstFit.{fit_of, first_fit, parts}
use Rattle.tables.specs.Layout.{row_of, table_length, order_at, start_at, least_at, from_at, to_at}
use Rattle.sorting.specs.Table.{place_of, rule_at, start_of, least_of, run_from, run_to, table_of, built_table}
use Rattle.tables.specs.Opening.{opening, open_fault}
use Rattle.sorting.proofs.Cases.{bench, bench_table, empty, empty_table}
use Rattle.lookup.specs.Walk.{run_stands, step_at, arrived_of, walk_from}
use Rattle.lookup.specs.Lookup.{turn_of, visit_of, lookup_from, lookup_of, says_looked, unmatched}

-- ---- a row of the table
pub record Case : Type 0 where
  pub mark : ℕ
  pub found : List ℕ
  pub written : List ℕ

abbrev row : ℕ → List ℕ → List ℕ → Case
row b found written = record { mark = b; found = found; written = written }

abbrev hold : List Case → Bool
hold [] = true
hold (r ∷ rs) = same_list r.found r.written and hold rs

-- what is said, as numbers: a refusal's number and place, then what is answered
abbrev numbers : Said → List ℕ
numbers s = s.number ∷ s.at ∷ s.then ∷ s.answer

-- a rule at an edge and the tests; none and the tests
abbrev rule : ℕ → ℕ → List ℕ
rule i t = 0 ∷ 0 ∷ 0 ∷ 1 ∷ i ∷ t ∷ 1 ∷ []

abbrev nothing : ℕ → List ℕ
nothing t = 0 ∷ 0 ∷ 0 ∷ 0 ∷ t ∷ 0 ∷ []

-- ---- a header of two numbers, looked up in the bench table; the other six alter nothing
abbrev asked : ℕ → ℕ → List ℕ
asked x y = numbers (says_looked (lookup_of bench bench_table (x ∷ y ∷ 1 ∷ 2 ∷ 3 ∷ 4 ∷ 5 ∷ 6 ∷ [])))

-- ---- the cases
pub cases : List Case
cases =
    row 1 (built_table bench) bench_table
    ∷ row 2 (asked 7 250) (rule 1 2)
    ∷ row 3 (asked 7 100) (rule 0 3)
    ∷ row 4 (asked 7 150) (rule 3 5)
    ∷ row 5 (asked 8 5) (rule 2 3)
    ∷ row 6 (asked 9 5) (rule 4 5)
    ∷ row 7 (asked 10 0) (nothing 4)
    ∷ row 8 (asked 7 1000) (nothing 6)
    ∷ row 9 (built_table empty) empty_table
    ∷ row 10 (flat (prefixes_of 5 16 23)) (16 ∷ 2 ∷ [])
    ∷ row 11 (flat (prefixes_of 5 1 30)) (1 ∷ 5 ∷ 2 ∷ 4 ∷ 4 ∷ 3 ∷ 8 ∷ 2 ∷ 16 ∷ 2 ∷ 24 ∷ 3 ∷ 28 ∷ 4 ∷ 30 ∷ 5 ∷ [])
    ∷ row 12 (flat (prefixes_of 32 0 4294967295)) (0 ∷ 0 ∷ [])
    ∷ row 12 (numbers (says_bounds (bounds_of 32 0 0))) (0 ∷ 0 ∷ 0 ∷ 0 ∷ 4294967295 ∷ [])
    ∷ []

-- the one statement: every row of the table holds, and in the table of no rules any header at all finds none, with 0 tests (B9)
pub cases_hold : T (hold cases) × ((h : List ℕ) → lookup_of empty empty_table h ≡ unmatched 0)
unfolding cases all any count least greatest tab end_of past_of flag_of dates_in is_date spot_of side_of rules_in offset_of low_of high_of ends_at fits edge_of shape_fault standing_of compare fit_of first_fit parts table_length order_at start_at least_at from_at to_at row_of place_of rule_at start_of least_of run_from run_to table_of opening open_fault run_stands step_at arrived_of walk_from turn_of visit_of lookup_from lookup_of prefixes_of prefixes_from block_of block_fits prefix_fault
cases_hold = (tt, λ h. refl)
