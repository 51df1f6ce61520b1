-- The headline statements about the lookup, under 01's three demands. R is a list with its shape, T a table, h a header, all of them any at all;
-- `lookup_of R T h` is what the contract of `lookup::lookup::lookup` says that it answers, so each statement is one about the code.
--
--     1. Every answer and every refusal is the written one.
--        (the contract)                   the lookup is `lookup_of`, for all lists, tables and headers, and it ends
--        walk_enough                      a walk does not depend on how many tests it may make, once they are enough: it never ends for want of them
--        returned_rule_fits               a rule returned is one of the list and fits the header, whatever the table
--        other_flags_still_fit            so also over a table that was built under other flags: it fits under the lookup's
--        edge_is_the_winners              the edge returned with it is that rule's own, whatever the table
--        refusal_carries_nothing          a refusal carries no match, a count of 0 and no edge
--        none_has_no_edge                 nor has an answer that no rule fits
--        refused_by_a_row                 it is 1, 2, 3, 5 or 6 with place 0, and never 4
--        opening-refuses                  1, 2, 3, 5 and 6 for the opening come first, in this order
--        broken_partition_refuses         else a partition that is not skipped and is broken, in the paper's own conditions, refuses the whole call
--                                         with 6 ..
--        nothing_else_refuses             .. and nothing else does
--        refuses_6_iff                    so of a table that opens 6 is given exactly where some partition is not skipped and broken, and none before it
--        numbers_past_d_unread            headers that agree on the first d numbers get the same answer, edge and all
--     2. The match is the first match.
--        lookup_is_first_match            of a table that keeps the promise: never a refusal, and the first match
--        lookup_rule_iff                  of such a table: rule i exactly when i is the first rule that fits ..
--        lookup_none_iff                  .. and none exactly when no rule fits
--        build_then_lookup                of the table that a build left, for every list that it accepted
--        built_rule_iff                   of that table: rule i exactly when i is the first rule that fits ..
--        built_none_iff                   .. and none exactly when no rule fits
--        built_lookup, choice_then_lookup of the table of first fit, and of any choice of partitions
--        lay_out_then_lookup              of the table that a laying out left, for every list and run that it accepted
--        audited_then_lookup              of every table that is audited yes, whoever wrote it: no refusal, the first match, at most d + k tests a partition
--     3. The count is the written walk's, and small.
--        count_is_the_sum                 it is the sum of the tests of the partitions that are visited
--        partition_tests                  at most d + k in a partition of m rules, 2^k being the largest power of two within m
--        total_tests                      so at most the sum of these
--        skipping_is_no_worse             of a table that keeps the promise: the match and the edge of 01's search of all partitions, and never more tests
--        size_has_k                       every partition has such a k
--        empty_list_costs_none            of no rules: none, and no test
--        bound_is_reached                 for every d, m and flags a list and a header reach d + k
--
-- The marked cases B1 to B12 are in `Cases.antt`; that two answers that a contract allows are equal is in `Determined.antt`.
-- Assumes nothing.
use Prim.Native.Nat.{ℕ, suc, ◌+◌, ◌-◌, ◌≤◌, ◌<◌}
use mathlib.Core.Bool.{Bool, true, false}
use mathlib.Core.List.{List, []}
use mathlib.Core.Logic.{◌↔◌}
use mathlib.Core.Path.{◌≡◌, refl, sym, ap, ◌∙◌}
use native.Mathlib.Omega.{arith}
use Rattle.std.specs.Prelude.{Result, Ok, Err}
use Rattle.ranges.specs.Numbers.{pick}
use Rattle.ranges.specs.Refusals.{Refusal, none, refused}
use Rattle.ranges.specs.declared.refusal.Cause.TheVariants.{BrokenTable}
use Rattle.lists.specs.Limits.{most_rules}
use Rattle.lists.specs.declared.shape.Shape.{Shape}
use Rattle.lists.specs.Rules.{Rules, listed, fields_of, rules_in}
use Rattle.lists.specs.FirstMatch.{fits, first_match}
use Rattle.lists.specs.Edges.{edge_of}
use Rattle.lists.specs.Faults.{list_fault}
use Rattle.lists.proofs.Rules.{Shaped}
use Rattle.lists.proofs.Theorems.{First}
use Rattle.tables.specs.Layout.{View, TableFor}
use Rattle.sorting.specs.FirstFit.{Choice, first_fit, parts}
use Rattle.tables.specs.Opening.{view_of, open_fault}
use Rattle.sorting.specs.Promise.{Promise}
use Rattle.sorting.specs.Table.{table_of, built_table}
use Rattle.sorting.specs.Build.{build_of, table_after}
use Rattle.sorting.specs.Brought.{lay_out_of, laid_after}
use Rattle.lists.proofs.Sound.{list_sound, list_shaped}
use Rattle.sorting.proofs.Sorted.Reading.{table_sized}
use Rattle.sorting.proofs.Sorted.Kept.{choice_keeps_promise}
use Rattle.sorting.proofs.Sorted.Built.{built_keeps_promise, list_keeps_promise}
use Rattle.sorting.proofs.Theorems.{build_is_b_iff, built_table_lem, lay_out_is_b_iff, laid_table}
use Rattle.auditing.specs.Audit.{audit_of}
use Rattle.auditing.proofs.Theorems.{audit_fine, audited_promises}
use Rattle.lookup.specs.Walk.{walk_from}
use Rattle.lookup.specs.Lookup.{visit_of, answer_of, search_of, search_all, lookup_of, match_in, tests_in, edge_in, matched, unmatched}
use Rattle.lookup.specs.Bounds.{PowerWithin, tests_of, is_skipped, sum_from, refuses, ladder}
use Rattle.lists.specs.Headers.{zeros}
use Rattle.lookup.specs.declared.lookup.Looked.{Looked}
use Rattle.lookup.proofs.Enough.{enough_one}
use Rattle.lookup.proofs.Returned.{rule_returned}
use Rattle.lookup.proofs.Unread.{Agree, lookup_same}
use Rattle.lookup.proofs.Brokens.{BrokenPart}
use Rattle.lookup.proofs.Refusing.{RefusedBy, refused-by, FirstBroken, lookup_broken, lookup_fine, lookup_6_iff}
use Rattle.lookup.proofs.Lookups.{lookup_refused}
use Rattle.lookup.proofs.Firsts.{search_first, all_first, never_more, lookup_first}
use Rattle.lookup.proofs.Matched.{NoneFits, matched_rule_iff, matched_none_iff}
use Rattle.lookup.proofs.Totals.{answer_tests, answer_stands, answer_alike, power_within, visit_tests, sum_le, picked_le, lookup_sum, none_costs_none}
use Rattle.lookup.proofs.Reached.{ladder_sound, ladder-rules, ladder-stands, ladder-parts, ladder_reaches}

-- ---- 1. every answer and every refusal is the written one
-- a walk that is broken is broken by the table, never for want of tests: `walk_from` is what the paper writes at any step bound above group size
-- plus remaining fields, such as a visit's
pub walk_enough : (R : Rules) (v : View) (h : List ℕ) (j k s e f t : ℕ) → (e - s) + (fields_of R - f) < j → (e - s) + (fields_of R - f) < k
    → walk_from R v h j s e f t ≡ walk_from R v h k s e f t
walk_enough = enough_one

module _ (R : Rules) (T h : List ℕ) where
  -- who acts on a rule returned may rely on it, even if the table is damaged
  pub returned_rule_fits : (i t : ℕ) (e : Bool) → lookup_of R T h ≡ matched i t e → (i < rules_in R) × (fits R h i ≡ true)
  returned_rule_fits i t e is = let m = (rule_returned R T h i t e is).matches in (m.rule, m.fit)

  -- the edge speaks of the rule returned with it, and of no candidate that lost
  pub edge_is_the_winners : (i t : ℕ) (e : Bool) → lookup_of R T h ≡ matched i t e → e ≡ edge_of R h i
  edge_is_the_winners i t e is = (rule_returned R T h i t e is).edge

  -- a refusal can't be taken for an answer
  pub refusal_carries_nothing : (x : Refusal) → lookup_of R T h ≡ Err x
      → (match_in (lookup_of R T h) ≡ []) × (tests_in (lookup_of R T h) ≡ 0) × (edge_in (lookup_of R T h) ≡ false)
  refusal_carries_nothing x is = (ap match_in is, ap tests_in is, ap edge_in is)

  pub none_has_no_edge : (t : ℕ) → lookup_of R T h ≡ unmatched t → edge_in (lookup_of R T h) ≡ false
  none_has_no_edge t is = ap edge_in is

  -- no refusal is given for another cause
  pub refused_by_a_row : (x : Refusal) → lookup_of R T h ≡ Err x → RefusedBy x
  refused_by_a_row = refused-by R T h

  pub opening-refuses : {x : Refusal} → open_fault R T ≡ Err x → lookup_of R T h ≡ Err x
  opening-refuses = lookup_refused R T h

  module _ (opens : open_fault R T ≡ none) where
    -- a partition is skipped by the stored number and the candidate of those before alone (`is_skipped`), and what is in it refuses nothing then.
    -- What breaks partition q is one of the paper's own conditions (`Brokens.antt`): its starts, or at a group that the walk reaches the rule
    -- number or the run read at the middle place, or at field d the group's size, its rule number or the confirming comparison
    pub broken_partition_refuses : (q : ℕ) → q < (view_of R T).b → is_skipped R (view_of R T) h q ≡ false → BrokenPart R (view_of R T) h q
        → lookup_of R T h ≡ refused BrokenTable
    broken_partition_refuses = lookup_broken R T h opens

    pub nothing_else_refuses : ((q : ℕ) → q < (view_of R T).b → is_skipped R (view_of R T) h q ≡ false → BrokenPart R (view_of R T) h q → ⊥)
        → refuses (lookup_of R T h) ≡ false
    nothing_else_refuses = lookup_fine R T h opens

    -- so of a table that opens 6 is given exactly where some partition is not skipped and broken; the first that is, is the one met
    pub refuses_6_iff : (lookup_of R T h ≡ refused BrokenTable) ↔ FirstBroken R (view_of R T) h
    refuses_6_iff = lookup_6_iff R T h opens

-- a caller may leave anything in the numbers past d
pub numbers_past_d_unread : (R : Rules) (T h h' : List ℕ) → Agree (fields_of R) h h' → lookup_of R T h ≡ lookup_of R T h'
numbers_past_d_unread = lookup_same

-- a build under flags s leaves a table, and a lookup under flags t reads it: what it returns fits under t, all dates and others as t has them
pub other_flags_still_fit : (s t : Shape) (l T h : List ℕ) (i n : ℕ) (e : Bool) → lookup_of (listed t l) (table_after (listed s l) T) h ≡ matched i n e
    → (i < rules_in (listed t l)) × (fits (listed t l) h i ≡ true)
other_flags_still_fit s t l T h = returned_rule_fits (listed t l) (table_after (listed s l) T) h

-- ---- 2. the match is the first match
-- the promise is all that the lookup layer relies on: whoever keeps it gets first match, however the table was made
pub lookup_is_first_match : (R : Rules) (T : List ℕ) → Shaped R → TableFor (rules_in R) (fields_of R) T → Promise R (view_of R T) → (h : List ℕ)
    → lookup_of R T h ≡ answer_of R h (first_match R h) (tests_in (lookup_of R T h))
lookup_is_first_match R T shape sized promise h =
    let found = lookup_first R T shape sized promise h in
    let t = found.0 in
    let tests : t ≡ tests_in (lookup_of R T h) = sym (ap tests_in found.1 ∙ answer_tests R h (first_match R h) t) in
    found.1 ∙ ap (answer_of R h (first_match R h)) tests

-- so such a table answers rule i exactly when i is the first rule that fits, and none exactly when no rule fits
module _ (R : Rules) (T : List ℕ) (shape : Shaped R) (sized : TableFor (rules_in R) (fields_of R) T) (promise : Promise R (view_of R T)) (h : List ℕ) where
  pub lookup_rule_iff : (i : ℕ) → ((t : ℕ) × (lookup_of R T h ≡ matched i t (edge_of R h i))) ↔ First R h i
  lookup_rule_iff = matched_rule_iff R h (lookup_of R T h) (tests_in (lookup_of R T h)) (lookup_is_first_match R T shape sized promise h)

  pub lookup_none_iff : ((t : ℕ) × (lookup_of R T h ≡ unmatched t)) ↔ NoneFits R h
  lookup_none_iff = matched_none_iff R h (lookup_of R T h) (tests_in (lookup_of R T h)) (lookup_is_first_match R T shape sized promise h)

-- a list that the build does not refuse
module _ (R : Rules) (fine : list_fault R ≡ none) where
  pub choice_then_lookup : (run : List ℕ) (b : ℕ) → Choice R run b → (h : List ℕ)
      → lookup_of R (table_of R run) h ≡ answer_of R h (first_match R h) (tests_in (lookup_of R (table_of R run) h))
  choice_then_lookup run b choice =
      lookup_is_first_match R (table_of R run) (list_shaped R fine) (table_sized R run) (choice_keeps_promise (list_sound R fine) choice)

  pub built_lookup : (h : List ℕ) → lookup_of R (built_table R) h ≡ answer_of R h (first_match R h) (tests_in (lookup_of R (built_table R) h))
  built_lookup = lookup_is_first_match R (built_table R) (list_shaped R fine) (table_sized R (first_fit R (rules_in R))) (list_keeps_promise R fine)

-- whatever list and table a build was handed: where it answered a number of partitions, and so refused nothing, the table that it left
-- gives every header its first match
pub build_then_lookup : (R : Rules) (T : List ℕ) (b : ℕ) → build_of R T ≡ Ok b → (h : List ℕ)
    → lookup_of R (table_after R T) h ≡ answer_of R h (first_match R h) (tests_in (lookup_of R (table_after R T) h))
build_then_lookup R T b answered h =
    let able = ((build_is_b_iff R T b).0 answered).0 in
    rw (built_table_lem R T able) (built_lookup R able.no_fault h)

-- the same of a laying out, whatever run it was handed
pub lay_out_then_lookup : (R : Rules) (run T : List ℕ) (b : ℕ) → lay_out_of R run T ≡ Ok b → (h : List ℕ)
    → lookup_of R (laid_after R run T) h ≡ answer_of R h (first_match R h) (tests_in (lookup_of R (laid_after R run T) h))
lay_out_then_lookup R run T b answered h =
    let able = ((lay_out_is_b_iff R run T b).0 answered).0 in
    rw (laid_table R run T able) (choice_then_lookup R able.fine.no_fault run (parts run (rules_in R)) able.choice h)

-- of the table that a build left: a caller who gets a rule has the first that fits, and one who gets none knows that no rule fits; by `build_then_lookup` there is no
-- third answer
module _ (R : Rules) (T : List ℕ) (b : ℕ) (answered : build_of R T ≡ Ok b) (h : List ℕ) where
  abbrev found : Result Looked Refusal
  found = lookup_of R (table_after R T) h

  pub built_rule_iff : (i : ℕ) → ((t : ℕ) × (lookup_of R (table_after R T) h ≡ matched i t (edge_of R h i))) ↔ First R h i
  built_rule_iff = matched_rule_iff R h found (tests_in found) (build_then_lookup R T b answered h)

  pub built_none_iff : ((t : ℕ) × (lookup_of R (table_after R T) h ≡ unmatched t)) ↔ NoneFits R h
  built_none_iff = matched_none_iff R h found (tests_in found) (build_then_lookup R T b answered h)

-- ---- 3. the count is the written walk's, and small
module _ (R : Rules) (T h : List ℕ) where
  -- the tests that partition q costs where it is visited
  abbrev cost : ℕ → ℕ
  cost q = tests_of (visit_of R (view_of R T) h q)

  -- and where it is come to: none where it is skipped
  abbrev spent : ℕ → ℕ
  spent q = pick (is_skipped R (view_of R T) h q) 0 (cost q)

  -- the rules of partition q
  abbrev size : ℕ → ℕ
  size q = (view_of R T).start (suc q) - (view_of R T).start q

  pub partition_tests : (q k : ℕ) → PowerWithin (size q) k → cost q ≤ fields_of R + k
  partition_tests = visit_tests R (view_of R T) h

  -- on every table that is not refused
  module _ (fine : refuses (lookup_of R T h) ≡ false) where
    pub count_is_the_sum : tests_in (lookup_of R T h) ≡ sum_from (view_of R T).b 0 spent
    count_is_the_sum = lookup_sum R T h fine

    pub total_tests : (k : ℕ → ℕ) → ((q : ℕ) → q < (view_of R T).b → PowerWithin (size q) (k q))
        → tests_in (lookup_of R T h) ≤ sum_from (view_of R T).b 0 (λ q. fields_of R + k q)
    total_tests k power =
        let b = (view_of R T).b in
        let each = sum_le b 0 spent (λ q. fields_of R + k q) (λ q a lt. omega (arith, picked_le (is_skipped R (view_of R T) h q) (cost q), partition_tests q (k q) (power q (omega arith)))) in
        omega (arith, count_is_the_sum)

  pub empty_list_costs_none : rules_in R ≡ 0 → open_fault R T ≡ none → lookup_of R T h ≡ unmatched 0
  empty_list_costs_none = none_costs_none R T h

-- skipping alters neither the match nor its edge, and makes no test more: v is any view that keeps the promise
pub record NoWorse (R : Rules) (v : View) (h : List ℕ) : Type 0 where
  pub same_match : match_in (search_of R v h) ≡ match_in (search_all R v h)
  pub same_edge : edge_in (search_of R v h) ≡ edge_in (search_all R v h)
  pub never_more_tests : tests_in (search_of R v h) ≤ tests_in (search_all R v h)

pub skipping_is_no_worse : (R : Rules) (v : View) → Promise R v → (h : List ℕ) → NoWorse R v h
skipping_is_no_worse R v promise h =
    let one = search_first h promise in
    let other = all_first h promise in
    record {
      same_match = ap match_in one.1 ∙ answer_alike R h (first_match R h) one.0 other.0 match_in refl refl ∙ sym (ap match_in other.1);
      same_edge = ap edge_in one.1 ∙ answer_alike R h (first_match R h) one.0 other.0 edge_in refl refl ∙ sym (ap edge_in other.1);
      never_more_tests = never_more h promise;
    }

-- of a table that is audited yes, whoever wrote it
pub record Served (R : Rules) (T h : List ℕ) : Type 0 where
  pub never_refused : refuses (lookup_of R T h) ≡ false
  pub first_match_is : lookup_of R T h ≡ answer_of R h (first_match R h) (tests_in (lookup_of R T h))
  pub the_sum : tests_in (lookup_of R T h) ≡ sum_from (view_of R T).b 0 (spent R T h)
  pub few_tests : (q k : ℕ) → PowerWithin (size R T h q) k → cost R T h q ≤ fields_of R + k

pub audited_then_lookup : (R : Rules) (T : List ℕ) → audit_of R T ≡ Ok true → (h : List ℕ) → Served R T h
audited_then_lookup R T yes-said h =
    let able = audit_fine R T yes-said in
    let first = lookup_is_first_match R T (list_shaped R able.no_fault) able.sized (audited_promises R T yes-said) h in
    let fine : refuses (lookup_of R T h) ≡ false = ap refuses first ∙ answer_stands R h (first_match R h) (tests_in (lookup_of R T h)) in
    record { never_refused = fine; first_match_is = first; the_sum = count_is_the_sum R T h fine; few_tests = partition_tests R T h }

pub size_has_k : (m : ℕ) → 1 ≤ m → (k : ℕ) × PowerWithin m k
size_has_k = power_within

-- a list of m rules of d fields, whatever the flags say, which the build accepts and puts into one partition, and a header whose lookup makes d + k tests
pub record Reached (d dates m k : ℕ) : Type 0 where
  pub accepted : list_fault (ladder d dates m) ≡ none
  pub rules : rules_in (ladder d dates m) ≡ m
  pub one_part : (view_of (ladder d dates m) (built_table (ladder d dates m))).b ≡ 1
  pub of_all : (view_of (ladder d dates m) (built_table (ladder d dates m))).start 1 ≡ m
  pub tests : lookup_of (ladder d dates m) (built_table (ladder d dates m)) zeros ≡ matched 0 (d + k) true

pub bound_is_reached : (d dates m k : ℕ) → 1 ≤ d → d ≤ 8 → 1 ≤ m → m ≤ most_rules → PowerWithin m k → Reached d dates m k
bound_is_reached d dates m k some few rules few_rules power =
    let R = ladder d dates m in
    let v = view_of R (built_table R) in
    let one = ladder-parts d dates m some rules in
    record {
      accepted = ladder-stands d dates m some few few_rules;
      rules = ladder-rules d dates m some;
      one_part = one;
      of_all = ap v.start (sym one) ∙ (built_keeps_promise R (ladder_sound d dates m some)).last_start ∙ ladder-rules d dates m some;
      tests = ladder_reaches d dates m k some few rules few_rules power;
    }
