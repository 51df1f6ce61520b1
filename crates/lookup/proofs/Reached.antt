-- The bound d + k is reached: for every d from 1 to 8 and m from 1 to 1,024 by the list in which rule i is 2i to 2i + 1 in every field, `ladder d dates m`,
-- and the header of zeros. The build puts its m rules into one partition, since of two rules the one with the smaller number is under
-- the other in field 0. The header is below every place but the first, whose rule is 0: so k tests halve the group down to one
-- place, and one test a field is inside.
--     ladder-rules, ladder_low, ladder_ends, ladder-stands      the list
--     ladder-parts                                              its one partition
--     ladder_reaches                                            its lookup makes d + k tests, and finds rule 0 at an end
-- Assumes nothing.
use Prim.Native.Nat.{ℕ, zero, suc, ◌+◌, ◌-◌, ◌*◌, ◌/◌, ◌%◌, min, ◌≤◌, ◌<◌}
use mathlib.Core.Bool.{Bool, true, false}
use mathlib.Core.Logic.{inl}
use mathlib.Core.Path.{◌≡◌, refl, sym, ap, ◌∙◌}
use native.Mathlib.Omega.{arith}
use native.Mathlib.Nat.{mul_assoc, mul-div_cancel, div-eq_of_lt-le}
use lib.ListN.{get_or, get_or-replicate}
use lib.Dec.{ltb}
use lib.Pow.{pow_pos}
use borrow.Author.Tests.{lt-ltb, ltb-true, ltb-false}
use Rattle.std.specs.Prelude.{Some}
use Rattle.ranges.specs.Refusals.{none}
use Rattle.ranges.specs.Sides.{is_inside}
use Rattle.ranges.specs.declared.side.Side.{Side}
use Rattle.ranges.specs.declared.side.Side.TheVariants.{Below, Inside}
use Rattle.ranges.proofs.Numbers.{all_yes, tab-length, tab_at}
use Rattle.ranges.proofs.Sides.{past_near, side_below, side_inside}
use Rattle.lists.specs.Limits.{most_rules}
use Rattle.lists.specs.Rules.{is_date, rules_in, offset_of, low_of, high_of, ends_at}
use Rattle.lists.specs.FirstMatch.{side_at, inside_at, fits}
use Rattle.lists.specs.Edges.{edge_of}
use Rattle.lists.proofs.Edges.{edge_at_iff}
use Rattle.lists.specs.Faults.{shape_fault, list_fault}
use Rattle.lists.proofs.Rules.{row_inside}
use Rattle.lists.proofs.Faults.{shape_stands, shaped}
use Rattle.tables.specs.Layout.{View}
use Rattle.tables.specs.Opening.{view_of}
use Rattle.ranges.specs.Standings.{is_clash}
use Rattle.ordering.specs.Order.{compare, before, clash}
use Rattle.sorting.specs.FirstFit.{part_of, first_fit}
use Rattle.sorting.specs.Promise.{InPart, Promise}
use Rattle.ranges.specs.declared.standing.Standing.TheVariants.{Alike}
use Rattle.sorting.specs.Table.{built_table}
use Rattle.lists.proofs.Sound.{Sound, sound_ends}
use Rattle.ranges.proofs.Standings.{alike_is, before_is}
use Rattle.ordering.proofs.Comparing.{compare-none, alike_fields_lem}
use Rattle.ordering.proofs.Ordering.{before_at, under-before}
use Rattle.sorting.proofs.Partitions.Parts.{parts-over, parts-least}
use Rattle.sorting.proofs.Partitions.FirstFits.{free_yes, fit_is, first_fit_at}
use Rattle.sorting.proofs.Sorted.Reading.{read-parts, table_sized}
use Rattle.sorting.proofs.Sorted.Built.{built_keeps_promise}
use Rattle.lookup.specs.Walk.{ran, mid_of, leaves, step_at, walk_from}
use Rattle.lookup.specs.Lookup.{turn_of, visit_of, answer_of, lookup_from, search_of, lookup_of, matched}
use Rattle.lookup.specs.Bounds.{PowerWithin, ladder}
use Rattle.lists.specs.Headers.{zeros}
use Rattle.lookup.proofs.Arrivals.{arrived_yes}
use Rattle.lookup.proofs.Steps.{trusted_stands, step_by}
use Rattle.lookup.proofs.Walks.{walk_arrives, walk_on}
use Rattle.lookup.proofs.Visits.{visit_walks}
use Rattle.lookup.proofs.Turns.{skips-not, turn_visits, from_none, from_on}
use Rattle.lookup.proofs.Lookups.{lookup_searches}
use Rattle.lookup.proofs.Firsts.{promise_opens}

-- ---- the list
-- a number of rule i's row, over the length of a row, is i
row-over : (d i r : ℕ) → r < d * 2 → (i * (d * 2) + r) / (d * 2) ≡ i
row-over d i r lt = div-eq_of_lt-le (d * 2) (omega arith) (omega arith)

-- number c of the list
abbrev rung : ℕ → ℕ → ℕ
rung d c = c / (d * 2) * 2 + c % 2

module _ (d dates m : ℕ) (some : 1 ≤ d) where
  pub ladder-rules : rules_in (ladder d dates m) ≡ m
  unfolding rules_in
  ladder-rules =
      let pos : 0 < d * 2 = omega arith in
      ap (λ n. n / (d * 2)) (tab-length (rung d) (m * d * 2) ∙ mul_assoc m d 2) ∙ mul-div_cancel m pos

  -- the numbers of rule i's row are 2i, its lows, and 2i + 1, its highs
  ladder_at : (i f r c : ℕ) → i < m → f < d → r < 2 → c ≡ (i * d + f) * 2 + r → get_or (ladder d dates m).numbers c 0 ≡ i * 2 + r
  ladder_at i f r c rule in_row end is =
      let inside : c < m * d * 2 = omega (arith, row_inside d i m f rule in_row) in
      let at : c ≡ i * (d * 2) + (f * 2 + r) = omega arith in
      let row : c / (d * 2) ≡ i = ap (λ x. x / (d * 2)) at ∙ row-over d i (f * 2 + r) (omega arith) in
      let odd : c % 2 ≡ r = omega arith in
      tab_at (rung d) (m * d * 2) c inside ∙ rw (row, odd)

  pub ladder_low : (i f : ℕ) → i < m → f < d → low_of (ladder d dates m) i f ≡ i * 2
  unfolding low_of offset_of
  ladder_low i f rule in_row =
      let low : i * 2 + 0 ≡ i * 2 = omega arith in
      ladder_at i f 0 ((i * d + f) * 2) rule in_row (omega arith) (omega arith) ∙ low

  -- past 2i, and not past 2i + 1
  pub ladder_ends : (i f : ℕ) → i < m → f < d → (i * 2 < ends_at (ladder d dates m) i f) × (ends_at (ladder d dates m) i f ≤ i * 2 + 2)
  unfolding ends_at high_of offset_of
  ladder_ends i f rule in_row =
      let at = (i * d + f) * 2 + 1 in
      let high : get_or (ladder d dates m).numbers at 0 ≡ i * 2 + 1 = ladder_at i f 1 at rule in_row (omega arith) (omega arith) in
      let near = past_near (is_date (ladder d dates m) f) (get_or (ladder d dates m).numbers at 0) in
      (omega (arith, near, high), omega (arith, near, high))

  pub ladder_sound : Sound (ladder d dates m)
  ladder_sound =
      record {
        ends = λ i f rule in_row.
            let is_i : i < m = omega (arith, ladder-rules) in
            let low = ladder_low i f is_i in_row in
            let end = ladder_ends i f is_i in_row in
            omega arith;
      }

module _ (d dates m : ℕ) (some : 1 ≤ d) (few : d ≤ 8) (few_rules : m ≤ most_rules) where
  ladder_shape : shape_fault (ladder d dates m) ≡ none
  ladder_shape =
      let n_is = ladder-rules d dates m some in
      let long = tab-length (rung d) (m * d * 2) in
      shape_stands (ladder d dates m) some few (ap (λ n. n * d * 2) n_is ∙ sym long) (omega arith)

  -- the build accepts it
  pub ladder-stands : list_fault (ladder d dates m) ≡ none
  ladder-stands = rw ladder_shape (sound_ends (ladder d dates m) (ladder_sound d dates m some))

-- ---- its one partition
module _ (d dates m : ℕ) (some : 1 ≤ d) where
  -- of two rules the one with the smaller number is under the other in field 0
  ladder-before : (i j : ℕ) → i < j → j < m → before (ladder d dates m) i j ≡ true
  ladder-before i j lt rule =
      let R = ladder d dates m in
      let end = ladder_ends d dates m some i 0 (omega arith) some in
      let low = ladder_low d dates m some j 0 rule some in
      under-before R (ladder_sound d dates m some) i j (omega (arith, ladder-rules d dates m some))
      record {
        field = 0;
        inside = some;
        same = compare-none R i j;
        under = omega arith;
      }

  ladder-apart : (i j : ℕ) → i < j → j < m → clash (ladder d dates m) i j ≡ false
  ladder-apart i j lt rule = ap is_clash (before_is (compare (ladder d dates m) i j d) (ladder-before i j lt rule))

  -- so first fit puts every rule into partition 0
  ladder-fit : (n i : ℕ) → n ≤ m → i < n → part_of (first_fit (ladder d dates m) n) i ≡ 0
  ladder-fit n i le lt =
      let R = ladder d dates m in
      first_fit_at R n i lt
      ∙ fit_is R (first_fit R i) i 0 (omega arith) (free_yes R (first_fit R i) i 0 (λ j l is. ladder-apart j i l (omega arith))) (λ r l. absurd (omega arith))

  -- and the built table has one partition
  pub ladder-parts : 1 ≤ m → (view_of (ladder d dates m) (built_table (ladder d dates m))).b ≡ 1
  ladder-parts rules =
      let R = ladder d dates m in
      let n = rules_in R in
      let n_is : n ≡ m = ladder-rules d dates m some in
      let run = first_fit R n in
      let first = ladder-fit n 0 (omega arith) (omega arith) in
      let most = parts-least run n 1 (λ i lt. let none = ladder-fit n i (omega arith) lt in omega arith) in
      let least = parts-over run n 0 (omega arith) in
      read-parts R run ∙ one_of most least
    where
      one_of : {a b : ℕ} → a ≤ 1 → b < a → a ≡ 1
      one_of le lt = omega arith

-- ---- the walk through that partition, of any table that keeps the promise
module _ (d dates m : ℕ) (some : 1 ≤ d) (few : d ≤ 8) (rules : 1 ≤ m) (v : View) (promise : Promise (ladder d dates m) v) (one : v.b ≡ 1) where
  n_is : rules_in (ladder d dates m) ≡ m
  n_is = ladder-rules d dates m some

  end : v.start 1 ≡ m
  end = ap v.start (sym one) ∙ promise.last_start ∙ n_is

  in_part : (p : ℕ) → p < m → InPart v 0 p
  in_part p lt = record { part = omega (arith, one); from_start = omega (arith, promise.first_start); to_next = omega (arith, end) }

  rule : (p : ℕ) → p < m → v.order p < m
  rule p lt = omega (arith, promise.order_rule p (omega (arith, n_is)), n_is)

  low : (p f : ℕ) → p < m → f < d → low_of (ladder d dates m) (v.order p) f ≡ v.order p * 2
  low p f lt in_row = ladder_low d dates m some (v.order p) f (rule p lt) in_row

  past : (p f : ℕ) → p < m → f < d → v.order p * 2 < ends_at (ladder d dates m) (v.order p) f
  past p f lt in_row = (ladder_ends d dates m some (v.order p) f (rule p lt) in_row).0

  -- rule 0 stands first
  first_at : (p : ℕ) → p < m → v.order p ≡ 0 → v.order 0 ≡ 0
  first_at zero lt is = is
  first_at (suc p) lt is =
      let R = ladder d dates m in
      let u = before_at R (v.order 0) (v.order (suc p)) (promise.sorted 0 0 (suc p) (in_part 0 rules) (in_part (suc p) lt) (omega arith)) in
      let over = promise.sound (v.order 0) u.field (promise.order_rule 0 (omega (arith, n_is))) u.inside in
      absurd (omega (arith, u.under, over, low (suc p) u.field lt u.inside, is))

  order_first : v.order 0 ≡ 0
  order_first =
      let at = promise.order_onto 0 (omega (arith, n_is)) in
      first_at at.0 (omega (arith, at.1, n_is)) at.2

  order_later : (p : ℕ) → 0 < p → p < m → 0 < v.order p
  order_later p pos lt = go (ltb 0 (v.order p)) refl
    where
      go : (t : Bool) → ltb 0 (v.order p) ≡ t → 0 < v.order p
      go true e = ltb-true 0 (v.order p) e
      go false e =
          let none : v.order p ≡ v.order 0 = omega (arith, ltb-false 0 (v.order p) e, order_first) in
          absurd (omega (arith, promise.order_once p 0 (omega (arith, n_is)) (omega (arith, n_is)) none))

  -- a place is its own run
  alone : (p r f : ℕ) → p < m → r < m → compare (ladder d dates m) (v.order r) (v.order p) (suc f) ≡ Alike → r ≡ p
  alone p r f lt lt' like =
      let R = ladder d dates m in
      let same = (alike_fields_lem R (v.order r) (v.order p) (suc f) like 0 (omega arith)).0 in
      promise.order_once r p (omega (arith, n_is)) (omega (arith, n_is)) (omega (arith, same, low r 0 lt' some, low p 0 lt some))

  record Lone (p f : ℕ) : Type 0 where
    from : v.from p f ≡ p
    to : v.to p f ≡ p + 1

  lone : (p f : ℕ) → p < m → f < d → Lone p f
  lone p f lt in_row =
      let run = promise.runs 0 p f (in_part p lt) in_row in
      let here = run.from_here in
      let there = run.to_here in
      let next = run.to_next in
      let first = v.from p f in
      let last = v.to p f - 1 in
      let like-first = alike_is (compare (ladder d dates m) (v.order first) (v.order p) (suc f)) (run.same first (omega arith) (omega arith)) in
      let like-last = alike_is (compare (ladder d dates m) (v.order last) (v.order p) (suc f)) (run.same last (omega arith) (omega arith)) in
      let at_first = alone p first f lt (omega arith) like-first in
      let at_last = alone p last f lt (omega (arith, end)) like-last in
      record { from = at_first; to = omega arith }

  zero_at : (f : ℕ) → f < d → get_or zeros f 0 ≡ 0
  zero_at f in_row = get_or-replicate 8 f 0 0 (omega arith)

  -- the test at place p of the group 0 to before e, whose outcome is y
  test_at : (e f p : ℕ) (y : Side) → p < e → e ≤ m → f < d → side_at (ladder d dates m) zeros (v.order p) f ≡ y
      → step_at (ladder d dates m) v zeros 0 e f p ≡ leaves y 0 e f p (p + 1)
  test_at e f p y lt le in_row is =
      let alone-p = lone p f (omega arith) in_row in
      let from = alone-p.from in
      let to = alone-p.to in
      step_by (ladder d dates m) v zeros 0 e f p (rules_in (ladder d dates m)) (v.order p) refl refl p (p + 1) (sym from) (sym to)
      (promise.order_rule p (omega (arith, n_is)))
      y
      (trusted_stands record { from_start = omega arith; from_here = omega arith; to_here = omega arith; to_end = omega arith })
      (sym is)

  -- rule 0 is inside in every field, so a group of one place stays
  first_inside : (f : ℕ) → f < d → side_at (ladder d dates m) zeros (v.order 0) f ≡ Inside
  first_inside f in_row =
      let R = ladder d dates m in
      let is-low = low 0 f rules in_row in
      let is-past = past 0 f rules in_row in
      side_inside (low_of R (v.order 0) f) (ends_at R (v.order 0) f) (get_or zeros f 0)
      (omega (arith, order_first, zero_at f in_row))
      (omega (arith, order_first, zero_at f in_row))

  first_fits : fits (ladder d dates m) zeros (v.order 0) ≡ true
  unfolding fits
  first_fits = all_yes (inside_at (ladder d dates m) zeros (v.order 0)) d (λ f in_row. ap is_inside (first_inside f in_row))

  walk_one : (k f t : ℕ) → d - f < k → f ≤ d → walk_from (ladder d dates m) v zeros k 0 1 f t ≡ ran (Some 0) (t + (d - f))
  walk_one zero f t enough le = absurd (omega arith)
  walk_one (suc k) f t enough le = go (ltb f d) refl (walk_one k)
    where
      go : (p : Bool) → ltb f d ≡ p → ((f t : ℕ) → d - f < k → f ≤ d → walk_from (ladder d dates m) v zeros k 0 1 f t ≡ ran (Some 0) (t + (d - f)))
          → walk_from (ladder d dates m) v zeros (suc k) 0 1 f t ≡ ran (Some 0) (t + (d - f))
      go true e rest =
          let in_row = ltb-true f d e in
          let count : t + 1 + (d - (f + 1)) ≡ t + (d - f) = omega arith in
          walk_on (ladder d dates m) v zeros k 0 1 f t (omega arith) in_row 0 1 (f + 1) (test_at 1 f 0 Inside (omega arith) rules in_row (first_inside f in_row))
          ∙ rest (f + 1) (t + 1) (omega arith) (omega arith)
          ∙ ap (ran (Some 0)) count
      go false e rest =
          let at-end = ltb-false f d e in
          let count : t ≡ t + (d - f) = omega arith in
          walk_arrives (ladder d dates m) v zeros k 0 1 f t (omega arith) at-end
          ∙ arrived_yes (ladder d dates m) v zeros 0 1 t refl (promise.order_rule 0 (omega (arith, n_is))) first_fits
          ∙ ap (λ i. ran (Some i) t) order_first
          ∙ ap (ran (Some 0)) count

  -- the header is below every other rule, so a larger group is halved
  later_below : (p : ℕ) → 0 < p → p < m → side_at (ladder d dates m) zeros (v.order p) 0 ≡ Below
  later_below p pos lt =
      let R = ladder d dates m in
      side_below (low_of R (v.order p) 0) (ends_at R (v.order p) 0) (get_or zeros 0 0) (omega (arith, low p 0 lt some, order_later p pos lt, zero_at 0 some))

  walk_ladder : (j k e t : ℕ) → PowerWithin e j → e ≤ m → e + d < k → walk_from (ladder d dates m) v zeros k 0 e 0 t ≡ ran (Some 0) (t + d + j)
  walk_ladder zero k e t power le enough =
      let is-1 : e ≡ 1 = omega (arith, power.within, power.largest) in
      let count : t + (d - 0) ≡ t + d + 0 = omega arith in
      ap (λ x. walk_from (ladder d dates m) v zeros k 0 x 0 t) is-1 ∙ walk_one k 0 t (omega arith) (omega arith) ∙ ap (ran (Some 0)) count
  walk_ladder (suc j) zero e t power le enough = absurd (omega arith)
  walk_ladder (suc j) (suc k) e t power le enough =
      let p = mid_of 0 e in
      let pos = pow_pos j in
      let least = power.within in
      let most = power.largest in
      let half : PowerWithin p j = record { within = omega arith; largest = omega arith } in
      let inner : p < e = omega arith in
      let past : 0 < p = omega arith in
      let count : t + 1 + d + j ≡ t + d + suc j = omega arith in
      walk_on (ladder d dates m) v zeros k 0 e 0 t (omega arith) some 0 p 0 (test_at e 0 p Below inner le some (later_below p past (omega arith)))
      ∙ walk_ladder j k p (t + 1) half (omega arith) (omega arith)
      ∙ ap (ran (Some 0)) count

  visit_ladder : (j : ℕ) → PowerWithin m j → visit_of (ladder d dates m) v zeros 0 ≡ ran (Some 0) (d + j)
  visit_ladder j power =
      let R = ladder d dates m in
      let start = promise.first_start in
      let count : 0 + d + j ≡ d + j = omega arith in
      visit_walks R v zeros 0 (omega (arith, end)) (omega (arith, end, n_is))
      ∙ ap (λ s. walk_from R v zeros (suc (rules_in R + d)) s (v.start 1) 0 0) start
      ∙ ap (λ e. walk_from R v zeros (suc (rules_in R + d)) 0 e 0 0) end
      ∙ walk_ladder j (suc (rules_in R + d)) m 0 power (omega arith) (omega (arith, n_is))
      ∙ ap (ran (Some 0)) count

  -- 0 is the low end of rule 0 in every field
  first_edge : edge_of (ladder d dates m) zeros 0 ≡ true
  first_edge =
      let R = ladder d dates m in
      let is-low = ladder_low d dates m some 0 0 rules some in
      let is-past = ladder_ends d dates m some 0 0 rules some in
      let is_zero = zero_at 0 some in
      (edge_at_iff R zeros 0).1
      record {
        field = 0;
        in_row = some;
        edge = record { from_low = omega arith; to_past = omega arith; end = inl (omega arith) };
      }

  search_ladder : (j : ℕ) → PowerWithin m j → search_of (ladder d dates m) v zeros ≡ matched 0 (d + j) true
  search_ladder j power =
      let R = ladder d dates m in
      let n = rules_in R in
      let first : min n 0 ≡ 0 = omega arith in
      let count : 0 + (d + j) ≡ d + j = omega arith in
      let under : 0 < n = omega (arith, n_is) in
      let turn = turn_of R v zeros in
      let visits : turn n 0 ≡ visit_of R v zeros 0 = turn_visits R v zeros n 0 (sym (skips-not n v.least n 0 (omega arith))) in
      ap (λ b. lookup_from R zeros turn b 0 n 0) one
      ∙ from_on R zeros turn 0 0 n 0 (Some 0) (d + j) (visits ∙ visit_ladder j power)
      ∙ from_none R zeros turn 1 (min n 0) (0 + (d + j))
      ∙ ap (λ b. answer_of R zeros b (0 + (d + j))) first
      ∙ ap (λ t. answer_of R zeros 0 t) count
      ∙ rw (lt-ltb 0 n under, first_edge)

-- ---- build, then lookup
pub ladder_reaches : (d dates m k : ℕ) → 1 ≤ d → d ≤ 8 → 1 ≤ m → m ≤ most_rules → PowerWithin m k
    → lookup_of (ladder d dates m) (built_table (ladder d dates m)) zeros ≡ matched 0 (d + k) true
ladder_reaches d dates m k some few rules few_rules power =
    let R = ladder d dates m in
    let promise = built_keeps_promise R (ladder_sound d dates m some) in
    let opens = promise_opens R (built_table R) (shaped R (ladder_shape d dates m some few few_rules)) (table_sized R (first_fit R (rules_in R))) promise in
    lookup_searches R (built_table R) zeros opens
    ∙ search_ladder d dates m some few rules (view_of R (built_table R)) promise (ladder-parts d dates m some rules) k power
