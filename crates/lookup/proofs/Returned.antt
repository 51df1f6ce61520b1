-- A rule that a lookup returns is one of the list and fits the header, and the edge is that rule's own, whatever the table.
-- A walk names only such a rule (`Named.antt`), the smallest candidate of several is one of them, and the edge is worked out from it.
--     visit_fits, turn_fits            of a partition
--     sooner_fits                      of the smaller of two candidates
--     matched_one                      two answers with a rule that are the same
--     Returned, rule_returned          of a lookup
-- Assumes nothing.
use Prim.Native.Nat.{ℕ, zero, suc, ◌+◌, min, ◌<◌}
use mathlib.Core.Bool.{Bool, true, false}
use mathlib.Core.List.{List}
use mathlib.Core.Path.{◌≡◌, refl, sym, ap, ◌∙◌}
use native.Mathlib.Omega.{arith}
use lib.Dec.{ltb}
use borrow.Author.Tests.{ltb-true, ltb-false}
use Rattle.std.specs.Prelude.{Option, Some, None, Ok, Err}
use Rattle.ranges.specs.Numbers.{pick}
use Rattle.ranges.specs.Refusals.{Fault, or_else}
use Rattle.ranges.proofs.Numbers.{never}
use Rattle.lists.specs.Rules.{Rules, rules_in}
use Rattle.lists.specs.Edges.{edge_of}
use Rattle.tables.specs.Layout.{View}
use Rattle.tables.specs.Opening.{view_of, open_fault}
use Rattle.lookup.specs.Walk.{Walked, ran}
use Rattle.lookup.specs.Lookup.{skips, turn_of, visit_of, better, after_visit, lookup_from, search_of, lookup_of, matched, unmatched, match_in, tests_in, edge_in}
use Rattle.lookup.proofs.Arrivals.{ran_one}
use Rattle.lookup.proofs.Named.{Matches, walk_fits}
use Rattle.lookup.proofs.Visits.{visited_walks}

-- what a rule i that is returned with edge e is: one of the list, which fits, and e is its own
pub record Returned (R : Rules) (h : List ℕ) (i : ℕ) (e : Bool) : Type 0 where
  pub matches : Matches R h i
  pub edge : e ≡ edge_of R h i

-- two answers with a rule that are the same have the same rule, tests and edge
pub matched_one : {i j t u : ℕ} {a b : Bool} → matched i t a ≡ matched j u b → (i ≡ j) × (t ≡ u) × (a ≡ b)
matched_one is = (cc (ap match_in is), ap tests_in is, ap edge_in is)

-- ---- the smallest candidate so far, if there is one, matches
pub sooner_fits : (R : Rules) (h : List ℕ) (best : ℕ) (x : Option ℕ) → (best < rules_in R → Matches R h best) → ((i : ℕ) → x ≡ Some i → Matches R h i)
    → better best x < rules_in R → Matches R h (better best x)
sooner_fits R h best None kept new lt = kept lt
sooner_fits R h best (Some i) kept new lt = go (ltb i best) refl
  where
    go : (t : Bool) → ltb i best ≡ t → Matches R h (min best i)
    go true e =
        let less = ltb-true i best e in
        let is : min best i ≡ i = omega arith in
        rw is (new i refl)
    go false e =
        let le = ltb-false i best e in
        let is : min best i ≡ best = omega arith in
        rw is (kept (rw is at lt))

-- ---- a partition
module _ (R : Rules) (v : View) (h : List ℕ) where
  pub visit_fits : (q i u : ℕ) → visit_of R v h q ≡ ran (Some i) u → Matches R h i
  visit_fits q i u is = walk_fits R v h _ _ _ _ _ i u (visited_walks R v h q (Some i) u is).walks

  -- so does what a turn names
  pub turn_fits : (best q i u : ℕ) → turn_of R v h best q ≡ ran (Some i) u → Matches R h i
  unfolding turn_of
  turn_fits best q i u = go (skips (rules_in R) v.least best q)
    where
      go : (s : Bool) → pick s (ran None 0) (visit_of R v h q) ≡ ran (Some i) u → Matches R h i
      go true is = never (cc (ran_one is).0)
      go false is = visit_fits q i u is

-- all partitions in order, where each turn names only what matches
module _ (R : Rules) (h : List ℕ) (turn : ℕ → ℕ → Walked) (names : (best q i u : ℕ) → turn best q ≡ ran (Some i) u → Matches R h i) where
  from_fits : (k q best t : ℕ) → (best < rules_in R → Matches R h best) → (i u : ℕ) (e : Bool) → lookup_from R h turn k q best t ≡ matched i u e → Returned R h i e
  unfolding lookup_from
  from_fits zero q best t kept i u e = go (ltb best (rules_in R)) refl
    where
      go : (p : Bool) → ltb best (rules_in R) ≡ p → pick p (matched best t (edge_of R h best)) (unmatched t) ≡ matched i u e → Returned R h i e
      go true under is =
          let same = matched_one is in
          let is_i : best ≡ i = same.0 in
          let is-edge : e ≡ edge_of R h best = sym same.2 in
          record { matches = rw is_i at (kept (ltb-true best (rules_in R) under)); edge = rw is_i at is-edge }
      go false past is = never (cc (ap match_in is))
  from_fits (suc k) q best t kept i u e = go (turn best q) refl (from_fits k)
    where
      go : (w : Walked) → turn best q ≡ w
          → ((q best t : ℕ) → (best < rules_in R → Matches R h best) → (i u : ℕ) (e : Bool) → lookup_from R h turn k q best t ≡ matched i u e → Returned R h i e)
          → after_visit w (λ x u. lookup_from R h turn k (suc q) (better best x) (t + u)) ≡ matched i u e → Returned R h i e
      go (Err b) at rest is = never (cc)
      go (Ok x) at rest is =
          rest (suc q) (better best x.found) (t + x.tests)
          (sooner_fits R h best x.found kept (λ j is_x. names best q j x.tests (at ∙ ap (λ y. ran y x.tests) is_x))) i u e is

-- ---- a lookup
pub rule_returned : (R : Rules) (T h : List ℕ) (i u : ℕ) (e : Bool) → lookup_of R T h ≡ matched i u e → Returned R h i e
unfolding lookup_of
rule_returned R T h i u e = go (open_fault R T)
  where
    go : (x : Fault) → or_else x (search_of R (view_of R T) h) ≡ matched i u e → Returned R h i e
    go (Ok v) is = from_fits R h (turn_of R (view_of R T) h) (turn_fits R (view_of R T) h) (view_of R T).b 0 (rules_in R) 0 (λ lt. absurd (omega arith)) i u e is
    go (Err x) is = never (cc)
