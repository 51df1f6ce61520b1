-- Only the first d numbers of a header are read: two headers that agree on them get the same answer.
-- Every test reads the number of a field below d, and the confirming comparison and the edge read those of all d fields; so step by step
-- the two walks are one.
--     step_same, arrived_same, walk_same, visit_same, turn_same, from_same      step by step
--     lookup_same                                                               the lookup
-- Assumes nothing.
use Prim.Native.Nat.{ℕ, zero, suc, ◌+◌, ◌<◌}
use mathlib.Core.Bool.{Bool, true, false}
use mathlib.Core.List.{List}
use mathlib.Core.Path.{◌≡◌, refl, sym, ◌∙◌}
use lib.ListN.{get_or}
use lib.Dec.{leb}
use borrow.Author.Tests.{leb-false}
use Rattle.std.specs.Prelude.{None, Ok, Err}
use Rattle.ranges.specs.Numbers.{pick}
use Rattle.lists.specs.Rules.{Rules, fields_of, rules_in}
use Rattle.lists.proofs.Fitting.{fits_same}
use Rattle.lists.proofs.Edges.{edge_same}
use Rattle.tables.specs.Layout.{View}
use Rattle.tables.specs.Opening.{view_of}
use Rattle.lookup.specs.Walk.{Walked, Stepped, ran, step_at, step_of, after_step, arrived_of, walk_from}
use Rattle.lookup.specs.Lookup.{turn_of, visit_of, better, after_visit, lookup_from, lookup_of}

-- two headers agree on the first d numbers
pub record Agree (d : ℕ) (h h' : List ℕ) : Type 0 where
  pub same : (f : ℕ) → f < d → get_or h f 0 ≡ get_or h' f 0

module _ (R : Rules) (v : View) (h h' : List ℕ) (agree : Agree (fields_of R) h h') where
  step_same : (s e f : ℕ) → f < fields_of R → step_of R v h s e f ≡ step_of R v h' s e f
  unfolding step_at
  step_same s e f lt = rw (agree.same f lt)

  arrived_same : (s e t : ℕ) → arrived_of R v h s e t ≡ arrived_of R v h' s e t
  unfolding arrived_of
  arrived_same s e t = rw (fits_same R h h' agree.same (v.order s))

  walk_same : (k s e f t : ℕ) → walk_from R v h k s e f t ≡ walk_from R v h' k s e f t
  unfolding walk_from
  walk_same zero s e f t = refl
  walk_same (suc k) s e f t = go (leb (fields_of R) f) refl (step_of R v h s e f) refl (walk_same k)
    where
      go : (p : Bool) → leb (fields_of R) f ≡ p → (x : Stepped) → step_of R v h s e f ≡ x
          → ((s e f t : ℕ) → walk_from R v h k s e f t ≡ walk_from R v h' k s e f t)
          → pick (leb e s) (ran None t) (pick p (arrived_of R v h s e t) (after_step x (λ s' e' f'. walk_from R v h k s' e' f' (t + 1))))
          ≡ pick (leb e s) (ran None t) (pick p (arrived_of R v h' s e t) (after_step (step_of R v h' s e f) (λ s' e' f'. walk_from R v h' k s' e' f' (t + 1))))
      go true is_p x is_x rest = rw (arrived_same s e t)
      go false is_p (Err b) is_x rest = rw (sym (step_same s e f (leb-false (fields_of R) f is_p)) ∙ is_x)
      go false is_p (Ok y) is_x rest = rw (sym (step_same s e f (leb-false (fields_of R) f is_p)) ∙ is_x, rest y.s y.e y.f (t + 1))

  visit_same : (q : ℕ) → visit_of R v h q ≡ visit_of R v h' q
  unfolding visit_of
  visit_same q = rw (walk_same (suc (rules_in R + fields_of R)) (v.start q) (v.start (suc q)) 0 0)

  turn_same : (best q : ℕ) → turn_of R v h best q ≡ turn_of R v h' best q
  unfolding turn_of
  turn_same best q = rw (visit_same q)

-- all partitions in order, where the turns are the same
module _ (R : Rules) (h h' : List ℕ) (agree : Agree (fields_of R) h h') (turn turn' : ℕ → ℕ → Walked) (same : (best q : ℕ) → turn best q ≡ turn' best q) where
  from_same : (k q best t : ℕ) → lookup_from R h turn k q best t ≡ lookup_from R h' turn' k q best t
  unfolding lookup_from
  from_same zero q best t = rw (edge_same R h h' agree.same best)
  from_same (suc k) q best t = go (turn best q) (sym (same best q)) (from_same k)
    where
      go : (w : Walked) → turn' best q ≡ w → ((q best t : ℕ) → lookup_from R h turn k q best t ≡ lookup_from R h' turn' k q best t)
          → after_visit w (λ x u. lookup_from R h turn k (suc q) (better best x) (t + u))
          ≡ after_visit (turn' best q) (λ x u. lookup_from R h' turn' k (suc q) (better best x) (t + u))
      go (Err b) is rest = rw is
      go (Ok x) is rest = rw (is, rest (suc q) (better best x.found) (t + x.tests))

pub lookup_same : (R : Rules) (T h h' : List ℕ) → Agree (fields_of R) h h' → lookup_of R T h ≡ lookup_of R T h'
unfolding lookup_of
lookup_same R T h h' agree =
    let v = view_of R T in
    rw (from_same R h h' agree (turn_of R v h) (turn_of R v h') (turn_same R v h h' agree) v.b 0 (rules_in R) 0)
