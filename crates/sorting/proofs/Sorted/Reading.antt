-- Reading the table of a list and a run of partition numbers gives back its parts (`specs/Table.antt`; `tables`, `specs/Layout.antt`).
--     within, past                               a list in two parts
--     table_sized                                the table's length
--     read-rules, read_fields, read-parts        n, d, b
--     read_order, read_start, read-least         the rule at a place; the first place of a partition, its smallest rule
--     read_from, read_to_lem                         the ends of a run
--     by_place-length, by_place_at               a part that stands place by place, field by field
--     to_head, to_order, to_starts, to_leasts, to_froms, table_parts      the table up to a part's end
--     to_order_long, to_starts_long, to_leasts_long, to_froms_long   how long that is
-- Assumes nothing.
use Prim.Native.Nat.{ℕ, ◌+◌, ◌*◌, ◌/◌, ◌%◌, ◌≤◌, ◌<◌}
use mathlib.Core.List.{List, [], ◌∷◌, ◌++◌}
use mathlib.Core.Path.{◌≡◌, refl, ap, ◌∙◌}
use native.Mathlib.Omega.{arith}
use lib.ListN.{length, get_or, length-append, get_or-append}
use lib.Seq.{get_or-append-add}
use Rattle.ranges.specs.Numbers.{tab}
use Rattle.ranges.proofs.Numbers.{tab-length, tab_at}
use Rattle.lists.specs.Rules.{Rules, fields_of, rules_in}
use Rattle.sorting.specs.FirstFit.{parts}
use Rattle.tables.specs.Layout.{head_length, row_of, TableFor, table_length, order_at, start_at, least_at, from_at, to_at}
use Rattle.tables.proofs.Offsets.{row_in, row_place, row_field, order_next, start_next, least_next, from_next, to_next, head_ends, order_ends, starts_end, leasts_end, froms_end, tos_end}
use Rattle.tables.specs.Opening.{view_of}
use Rattle.sorting.specs.Table.{rule_at, start_of, least_of, run_from, run_to, by_place, table_of}

-- ---- a list in two parts, the first of n numbers
module _ (xs ys : List ℕ) (n : ℕ) (long : length xs ≡ n) where
  pub within : (at : ℕ) → at < n → get_or (xs ++ ys) at 0 ≡ get_or xs at 0
  within at lt = get_or-append xs ys 0 at (omega arith)

  pub past : (k at : ℕ) → at ≡ n + k → get_or (xs ++ ys) at 0 ≡ get_or ys k 0
  past k at e =
      let is : at ≡ length xs + k = omega arith in
      ap (λ m. get_or (xs ++ ys) m 0) is ∙ get_or-append-add xs ys k 0

  both_long : (m : ℕ) → length ys ≡ m → length (xs ++ ys) ≡ n + m
  both_long m long' = omega (arith, length-append xs ys)

-- ---- a part that stands place by place, field by field
module _ (R : Rules) (g : ℕ → ℕ → ℕ) where
  pub by_place-length : length (by_place R g) ≡ rules_in R * fields_of R
  by_place-length = tab-length (λ c. g (c / fields_of R) (c % fields_of R)) (rules_in R * fields_of R)

  pub by_place_at : (p f : ℕ) → p < rules_in R → f < fields_of R → get_or (by_place R g) (row_of (fields_of R) p f) 0 ≡ g p f
  by_place_at p f is_p in_row =
      let d = fields_of R in
      tab_at (λ c. g (c / d) (c % d)) (rules_in R * d) (row_of d p f) (row_in d p (rules_in R) f is_p in_row)
      ∙ ap (λ q. g q (row_of d p f % d)) (row_place p in_row)
      ∙ ap (g p) (row_field p in_row)

-- ---- the table up to a part's end
-- n, d and b
abbrev pub to_head : Rules → List ℕ → List ℕ
to_head R run = rules_in R ∷ fields_of R ∷ parts run (rules_in R) ∷ []

-- and the order
abbrev pub to_order : Rules → List ℕ → List ℕ
to_order R run = to_head R run ++ tab (rules_in R) (rule_at R run)

-- and the starts
abbrev pub to_starts : Rules → List ℕ → List ℕ
to_starts R run = to_order R run ++ tab (rules_in R + 1) (start_of R run)

-- and the smallest rules
abbrev pub to_leasts : Rules → List ℕ → List ℕ
to_leasts R run = to_starts R run ++ tab (rules_in R) (least_of R run)

-- and the run-froms
abbrev pub to_froms : Rules → List ℕ → List ℕ
to_froms R run = to_leasts R run ++ by_place R (run_from R run)

module _ (R : Rules) (run : List ℕ) where
  pub table_parts : table_of R run ≡ to_froms R run ++ by_place R (run_to R run)
  unfolding table_of
  table_parts = refl

  -- each ends where the layout has the next part begin
  pub to_order_long : length (to_order R run) ≡ start_at (rules_in R) 0
  to_order_long =
      let n = rules_in R in
      omega (arith, both_long (to_head R run) (tab n (rule_at R run)) head_length refl n (tab-length (rule_at R run) n), head_ends, order_ends n)

  pub to_starts_long : length (to_starts R run) ≡ least_at (rules_in R) 0
  to_starts_long =
      let n = rules_in R in
      both_long (to_order R run) (tab (n + 1) (start_of R run)) (start_at n 0) to_order_long (n + 1) (tab-length (start_of R run) (n + 1)) ∙ starts_end n

  pub to_leasts_long : length (to_leasts R run) ≡ from_at (rules_in R) (fields_of R) 0 0
  to_leasts_long =
      let n = rules_in R in
      both_long (to_starts R run) (tab n (least_of R run)) (least_at n 0) to_starts_long n (tab-length (least_of R run) n) ∙ leasts_end n (fields_of R)

  pub to_froms_long : length (to_froms R run) ≡ to_at (rules_in R) (fields_of R) 0 0
  to_froms_long =
      let n = rules_in R in
      let d = fields_of R in
      both_long (to_leasts R run) (by_place R (run_from R run)) (from_at n d 0 0) to_leasts_long (n * d) (by_place-length R (run_from R run)) ∙ froms_end n d

  -- what stands before the run-tos, the run-froms, the smallest rules, the starts
  in_froms : (at : ℕ) → at < to_at (rules_in R) (fields_of R) 0 0 → get_or (table_of R run) at 0 ≡ get_or (to_froms R run) at 0
  unfolding table_of
  in_froms at lt = within (to_froms R run) (by_place R (run_to R run)) (to_at (rules_in R) (fields_of R) 0 0) to_froms_long at lt

  in_leasts : (at : ℕ) → at < from_at (rules_in R) (fields_of R) 0 0 → get_or (table_of R run) at 0 ≡ get_or (to_leasts R run) at 0
  in_leasts at lt =
      let n = rules_in R in
      let d = fields_of R in
      in_froms at (omega (arith, froms_end n d)) ∙ within (to_leasts R run) (by_place R (run_from R run)) (from_at n d 0 0) to_leasts_long at lt

  in_starts : (at : ℕ) → at < least_at (rules_in R) 0 → get_or (table_of R run) at 0 ≡ get_or (to_starts R run) at 0
  in_starts at lt =
      let n = rules_in R in
      in_leasts at (omega (arith, leasts_end n (fields_of R))) ∙ within (to_starts R run) (tab n (least_of R run)) (least_at n 0) to_starts_long at lt

  in_order : (at : ℕ) → at < start_at (rules_in R) 0 → get_or (table_of R run) at 0 ≡ get_or (to_order R run) at 0
  in_order at lt =
      let n = rules_in R in
      in_starts at (omega (arith, starts_end n)) ∙ within (to_order R run) (tab (n + 1) (start_of R run)) (start_at n 0) to_order_long at lt

  -- ---- the parts
  table_long : length (table_of R run) ≡ table_length (rules_in R) (fields_of R)
  unfolding table_of
  table_long =
      let n = rules_in R in
      let d = fields_of R in
      both_long (to_froms R run) (by_place R (run_to R run)) (to_at n d 0 0) to_froms_long (n * d) (by_place-length R (run_to R run)) ∙ tos_end n d

  pub table_sized : TableFor (rules_in R) (fields_of R) (table_of R run)
  table_sized = record { long = table_long }

  pub read-rules : (view_of R (table_of R run)).n ≡ rules_in R
  unfolding table_of
  read-rules = refl

  pub read_fields : (view_of R (table_of R run)).d ≡ fields_of R
  unfolding table_of
  read_fields = refl

  pub read-parts : (view_of R (table_of R run)).b ≡ parts run (rules_in R)
  unfolding table_of
  read-parts = refl

  pub read_order : (p : ℕ) → p < rules_in R → (view_of R (table_of R run)).order p ≡ rule_at R run p
  read_order p is_p =
      let n = rules_in R in
      in_order (order_at p) (omega (arith, order_next p, order_ends n))
      ∙ past (to_head R run) (tab n (rule_at R run)) head_length refl p (order_at p) (omega (arith, order_next p, head_ends))
      ∙ tab_at (rule_at R run) n p is_p

  pub read_start : (q : ℕ) → q ≤ rules_in R → (view_of R (table_of R run)).start q ≡ start_of R run q
  read_start q le =
      let n = rules_in R in
      in_starts (start_at n q) (omega (arith, start_next n q, starts_end n))
      ∙ past (to_order R run) (tab (n + 1) (start_of R run)) (start_at n 0) to_order_long q (start_at n q) (start_next n q)
      ∙ tab_at (start_of R run) (n + 1) q (omega arith)

  pub read-least : (q : ℕ) → q < rules_in R → (view_of R (table_of R run)).least q ≡ least_of R run q
  read-least q lt =
      let n = rules_in R in
      in_leasts (least_at n q) (omega (arith, least_next n q, leasts_end n (fields_of R)))
      ∙ past (to_starts R run) (tab n (least_of R run)) (least_at n 0) to_starts_long q (least_at n q) (least_next n q)
      ∙ tab_at (least_of R run) n q lt

  pub read_from : (p f : ℕ) → p < rules_in R → f < fields_of R → (view_of R (table_of R run)).from p f ≡ run_from R run p f
  read_from p f is_p in_row =
      let n = rules_in R in
      let d = fields_of R in
      in_froms (from_at n d p f) (omega (arith, from_next n d p f, row_in d p n f is_p in_row, froms_end n d))
      ∙ past (to_leasts R run) (by_place R (run_from R run)) (from_at n d 0 0) to_leasts_long (row_of d p f) (from_at n d p f) (from_next n d p f)
      ∙ by_place_at R (run_from R run) p f is_p in_row

  pub read_to_lem : (p f : ℕ) → p < rules_in R → f < fields_of R → (view_of R (table_of R run)).to p f ≡ run_to R run p f
  unfolding table_of
  read_to_lem p f is_p in_row =
      let n = rules_in R in
      let d = fields_of R in
      past (to_froms R run) (by_place R (run_to R run)) (to_at n d 0 0) to_froms_long (row_of d p f) (to_at n d p f) (to_next n d p f)
      ∙ by_place_at R (run_to R run) p f is_p in_row
