-- The lookup in a table that keeps the promise (`sorting`, `specs/Promise.antt`) is never refused, and its match is the first match.
-- Each partition that is visited names its rule that fits (`Finds.antt`), one that is skipped has no rule below the candidate, every rule has
-- a place in one of them, and so the smallest candidate of all is the smallest rule that fits. The same goes for 01's search, which skips none.
--     part_of_place            every place lies in a partition
--     visit_finds              a partition names its rule that fits
--     search_first, all_first      all partitions in order: the first match, with and without skipping
--     never_more               with skipping it makes no more tests
--     promise_opens            such a table opens
--     lookup_first             the lookup
-- Assumes nothing.
use Prim.Native.Nat.{ℕ, zero, suc, ◌+◌, ◌-◌, min, ◌≤◌, ◌<◌}
use mathlib.Core.Bool.{Bool, true, false}
use mathlib.Core.List.{List}
use mathlib.Core.Path.{◌≡◌, refl, sym, ap, ◌∙◌, subst}
use native.Mathlib.Omega.{arith}
use lib.Dec.{ltb}
use borrow.Author.Tests.{ltb-true, ltb-false}
use Rattle.std.specs.Prelude.{Option, Some, None, Result}
use Rattle.ranges.specs.Numbers.{least}
use Rattle.ranges.specs.Refusals.{Refusal, none}
use Rattle.ranges.proofs.Numbers.{never, and_right, least_is, least-none}
use Rattle.lists.specs.Rules.{Rules, fields_of, rules_in}
use Rattle.lists.specs.FirstMatch.{fits, first_match}
use Rattle.lists.proofs.Rules.{Shaped}
use Rattle.tables.specs.Layout.{View, TableFor}
use Rattle.tables.specs.Opening.{view_of, open_fault}
use Rattle.sorting.specs.Promise.{InPart, Promise}
use Rattle.tables.proofs.Opened.{opened_none}
use Rattle.lookup.specs.Walk.{Walked, ran}
use Rattle.lookup.specs.Lookup.{skips, turn_of, visit_of, better, answer_of, lookup_from, search_of, search_all, lookup_of, tests_in}
use Rattle.lookup.specs.Bounds.{tests_of, candidate, turn_made, refuses}
use Rattle.lookup.specs.declared.lookup.Looked.{Looked}
use Rattle.lookup.proofs.Returned.{visit_fits, sooner_fits}
use Rattle.lookup.proofs.Named.{Matches}
use Rattle.lookup.proofs.Groups.{starts_within, held_first}
use Rattle.lookup.proofs.Finds.{Finds, walk_finds}
use Rattle.lookup.proofs.Visits.{visit_walks}
use Rattle.lookup.proofs.Turns.{turn_skipped, turn_visits, from_none, from_on}
use Rattle.lookup.proofs.Totals.{answer_stands, sum_le, search_sum, turn_tests, picked_le}
use Rattle.lookup.proofs.Lookups.{lookup_searches}

module _ {R : Rules} {v : View} (promise : Promise R v) where
  -- every place lies in a partition
  place_below : (k p : ℕ) → k ≤ v.b → p < v.start k → (q : ℕ) × InPart v q p
  place_below zero p le lt = absurd (omega (arith, promise.first_start))
  place_below (suc k) p le lt = go (ltb p (v.start k)) refl (place_below k p (omega arith))
    where
      go : (t : Bool) → ltb p (v.start k) ≡ t → (p < v.start k → (q : ℕ) × InPart v q p) → (q : ℕ) × InPart v q p
      go true e under = under (ltb-true p (v.start k) e)
      go false e under = (k, record { part = le; from_start = ltb-false p (v.start k) e; to_next = lt })

  pub part_of_place : (p : ℕ) → p < rules_in R → (q : ℕ) × InPart v q p
  part_of_place p lt = place_below v.b p (omega arith) (omega (arith, promise.last_start))

  -- the starts ascend, so each is at least its number
  start_over : (q : ℕ) → q ≤ v.b → q ≤ v.start q
  start_over zero le = omega arith
  start_over (suc q) le = omega (arith, start_over q (omega arith), promise.ascend q le)

  pub parts_few : v.b ≤ rules_in R
  parts_few = omega (arith, start_over v.b (omega arith), promise.last_start)

module _ {R : Rules} {v : View} (h : List ℕ) (promise : Promise R v) where
  -- a partition names its rule that fits
  pub visit_finds : (q : ℕ) → q < v.b → Finds R v h q (visit_of R v h q)
  visit_finds q lt =
      let within = starts_within promise (v.b - suc q) (suc q) (omega arith) in
      let some = promise.ascend q lt in
      rw (visit_walks R v h q some within)
      (walk_finds h promise q (suc (rules_in R + fields_of R)) (v.start q) (v.start (suc q)) 0 0 (omega arith) (omega arith) (held_first R v h q lt))

  -- ---- what the partitions before q have named: a rule that fits or n, and none of their rules that fit is smaller
  record Best (q best : ℕ) : Type 0 where
    at_most : best ≤ rules_in R
    match : best < rules_in R → Matches R h best
    first : (p r : ℕ) → r < q → InPart v r p → fits R h (v.order p) ≡ true → best ≤ v.order p

  -- nothing below it fits, once all are visited
  none-under : (best : ℕ) → Best v.b best → (i : ℕ) → i < best → fits R h i ≡ false
  none-under best named i lt = go (fits R h i) refl
    where
      go : (t : Bool) → fits R h i ≡ t → t ≡ false
      go false e = refl
      go true e =
          let rule : i < rules_in R = omega (arith, named.at_most) in
          let at = promise.order_onto i rule in
          let p = at.0 in
          let part = part_of_place promise p at.1 in
          let fit : fits R h (v.order p) ≡ true = ap (fits R h) at.2 ∙ e in
          absurd (omega (arith, named.first p part.0 part.1.part part.1 fit, at.2))

  best_first : (best : ℕ) → Best v.b best → best ≡ first_match R h
  unfolding first_match
  best_first best named = go (ltb best (rules_in R)) refl
    where
      go : (t : Bool) → ltb best (rules_in R) ≡ t → best ≡ least (rules_in R) (fits R h)
      go true e =
          let lt = ltb-true best (rules_in R) e in
          sym (least_is (fits R h) (rules_in R) best lt (named.match lt).fit (none-under best named))
      go false e =
          let is : best ≡ rules_in R = omega (arith, ltb-false best (rules_in R) e, named.at_most) in
          is ∙ sym (least-none (fits R h) (rules_in R) (λ k lt. none-under best named k (omega arith)))

  -- ---- one partition more
  better_le : (best : ℕ) (x : Option ℕ) → better best x ≤ best
  better_le best None = omega arith
  better_le best (Some i) = omega arith

  better_hit : (best i : ℕ) (x : Option ℕ) → x ≡ Some i → better best x ≤ i
  better_hit best i x is = rw is (min_le best i)
    where
      min_le : (a c : ℕ) → min a c ≤ c
      min_le a c = omega arith

  -- what a turn of partition q does that leaves nothing out: it names a rule that matches, or none, and with it no rule of the partition that
  -- fits is smaller than the candidate
  record Takes (q best : ℕ) (w : Walked) : Type 0 where
    found : Option ℕ
    tests : ℕ
    is : w ≡ ran found tests
    match : (i : ℕ) → found ≡ Some i → Matches R h i
    first : (p : ℕ) → InPart v q p → fits R h (v.order p) ≡ true → better best found ≤ v.order p

  visit_takes : (q best : ℕ) → q < v.b → Takes q best (visit_of R v h q)
  visit_takes q best lt =
      let f = visit_finds q lt in
      record {
        found = f.found;
        tests = f.tests;
        is = f.is;
        match = λ i is. visit_fits R v h q i f.tests (f.is ∙ ap (λ x. ran x f.tests) is);
        first = λ p at fit. better_hit best (v.order p) f.found (f.finds p at fit);
      }

  -- a partition that is skipped has no rule below the candidate
  turn_takes : (q best : ℕ) → q < v.b → Takes q best (turn_of R v h best q)
  turn_takes q best lt = go (skips (rules_in R) v.least best q) refl
    where
      go : (s : Bool) → skips (rules_in R) v.least best q ≡ s → Takes q best (turn_of R v h best q)
      go true e =
          let past : best < v.least q = ltb-true best (v.least q) (and_right (ltb best (rules_in R)) (ltb best (v.least q)) e) in
          record {
            found = None;
            tests = 0;
            is = turn_skipped R v h best q e;
            match = λ i is. never (cc);
            first = λ p at fit. omega (arith, (promise.smallest q lt).least_of p at);
          }
      go false e = rw (turn_visits R v h best q e) (visit_takes q best lt)

  best_more : (q best : ℕ) {w : Walked} → Best q best → (f : Takes q best w) → Best (suc q) (better best f.found)
  best_more q best named f =
      let less = better_le best f.found in
      record {
        at_most = omega (arith, named.at_most, less);
        match = sooner_fits R h best f.found named.match f.match;
        first = λ p r lt in-r fit. go p r (ltb r q) refl lt in-r fit;
      }
    where
      go : (p r : ℕ) (t : Bool) → ltb r q ≡ t → r < suc q → InPart v r p → fits R h (v.order p) ≡ true → better best f.found ≤ v.order p
      go p r true e lt in-r fit = omega (arith, better_le best f.found, named.first p r (ltb-true r q e) in-r fit)
      go p r false e lt in-r fit =
          let is : r ≡ q = omega (arith, ltb-false r q e) in
          f.first p (subst (λ k. InPart v k p) is in-r) fit

  -- ---- all partitions in order, where no turn leaves anything out
  module _ (turn : ℕ → ℕ → Walked) (takes : (q best : ℕ) → q < v.b → Takes q best (turn best q)) where
    from_first : (k q best t : ℕ) → q + k ≡ v.b → Best q best → (u : ℕ) × (lookup_from R h turn k q best t ≡ answer_of R h (first_match R h) u)
    from_first zero q best t is named =
        let at_b : q ≡ v.b = omega arith in
        (t, from_none R h turn q best t ∙ ap (λ m. answer_of R h m t) (best_first best (subst (λ k. Best k best) at_b named)))
    from_first (suc k) q best t is named =
        let f = takes q best (omega arith) in
        let rest = from_first k (suc q) (better best f.found) (t + f.tests) (omega arith) (best_more q best named f) in
        (rest.0, from_on R h turn k q best t f.found f.tests f.is ∙ rest.1)

    by_turns : (u : ℕ) × (lookup_from R h turn v.b 0 (rules_in R) 0 ≡ answer_of R h (first_match R h) u)
    by_turns =
        from_first v.b 0 (rules_in R) 0 (omega arith)
        record {
          at_most = omega arith;
          match = λ lt. absurd (omega arith);
          first = λ p r lt. absurd (omega arith);
        }

  pub search_first : (u : ℕ) × (search_of R v h ≡ answer_of R h (first_match R h) u)
  search_first = by_turns (turn_of R v h) turn_takes

  pub all_first : (u : ℕ) × (search_all R v h ≡ answer_of R h (first_match R h) u)
  all_first = by_turns (λ best. visit_of R v h) visit_takes

  -- ---- skipping makes no more tests
  stands : {w : Result Looked Refusal} → (u : ℕ) × (w ≡ answer_of R h (first_match R h) u) → refuses w ≡ false
  stands (u, is) = ap refuses is ∙ answer_stands R h (first_match R h) u

  pub never_more : tests_in (search_of R v h) ≤ tests_in (search_all R v h)
  never_more =
      let n = rules_in R in
      let skipping = turn_of R v h in
      let all : ℕ → ℕ → Walked = λ best. visit_of R v h in
      let fewer = sum_le v.b 0 (λ q. tests_of (turn_made n skipping q)) (λ q. tests_of (turn_made n all q)) (λ q a lt. turn_le (candidate n skipping q) q) in
      omega (arith, search_sum R h skipping v.b (stands search_first), search_sum R h all v.b (stands all_first), fewer)
    where
      turn_le : (best q : ℕ) → tests_of (turn_of R v h best q) ≤ tests_of (visit_of R v h q)
      turn_le best q = rw (turn_tests R v h best q) (picked_le (skips (rules_in R) v.least best q) (tests_of (visit_of R v h q)))

-- ---- the lookup
module _ (R : Rules) (T : List ℕ) (shape : Shaped R) (sized : TableFor (rules_in R) (fields_of R) T) (promise : Promise R (view_of R T)) where
  -- such a table opens
  pub promise_opens : open_fault R T ≡ none
  promise_opens =
      opened_none
      record {
        shape_stands = shape;
        sized = sized;
        rules = promise.rules;
        fields = promise.fields;
        few_parts = parts_few promise;
        first_start = promise.first_start;
        last_start = promise.last_start;
      }

  pub lookup_first : (h : List ℕ) → (u : ℕ) × (lookup_of R T h ≡ answer_of R h (first_match R h) u)
  lookup_first h =
      let found = search_first h promise in
      (found.0, lookup_searches R T h promise_opens ∙ found.1)
