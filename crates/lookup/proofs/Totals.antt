-- The count of a lookup that is not refused is the sum of the tests of the partitions that it visits, each at most d + k for a partition of
-- m rules, 2^k being the largest power of two within m.
--     power_within               every number from 1 on has one
--     visit_tests                a partition's tests
--     answer_tests, answer_stands      an answer's tests; it is no refusal
--     answer_alike                     what is read off it without its tests
--     sum_le, sum_same           a sum of smaller summands; of the same
--     search_sum                 the count of a search is the sum of its turns' tests, whatever a turn is
--     turn_tests, picked_le      those of a turn: none where the partition is skipped
--     lookup_sum                 the count is the sum
--     none_costs_none            an empty list costs none
-- Assumes nothing.
use Prim.Native.Nat.{ℕ, zero, suc, ◌+◌, ◌-◌, ◌^◌, ◌≤◌, ◌<◌}
use mathlib.Core.Bool.{Bool, true, false}
use mathlib.Core.List.{List}
use mathlib.Core.Path.{◌≡◌, refl, sym, ap, ◌∙◌}
use native.Mathlib.Omega.{arith}
use lib.Dec.{ltb}
use lib.Pow.{pow_pos}
use borrow.Author.Tests.{le-ltb, ltb-true, ltb-false}
use Rattle.std.specs.Prelude.{None, Ok, Err, Result}
use Rattle.ranges.specs.Numbers.{pick}
use Rattle.ranges.specs.Refusals.{Refusal, Fault, none, or_else}
use Rattle.ranges.proofs.Numbers.{never}
use Rattle.lists.specs.Rules.{Rules, fields_of, rules_in}
use Rattle.lists.specs.Edges.{edge_of}
use Rattle.tables.specs.Layout.{View}
use Rattle.tables.specs.Opening.{view_of, open_fault}
use Rattle.tables.proofs.Opened.{opened}
use Rattle.lookup.specs.Walk.{Walked, ran}
use Rattle.lookup.specs.Lookup.{skips, turn_of, visit_of, answer_of, lookup_from, search_of, lookup_of, tests_in, matched, unmatched}
use Rattle.lookup.specs.Bounds.{PowerWithin, tests_of, candidate, turn_made, is_skipped, sum_from, refuses}
use Rattle.lookup.specs.declared.lookup.Looked.{Looked}
use Rattle.lookup.proofs.Counts.{walk_few}
use Rattle.lookup.proofs.Visits.{visited_walks}
use Rattle.lookup.proofs.Turns.{onward, from_none, made_broken, made_on}
use Rattle.lookup.proofs.Lookups.{lookup_searches}

-- ---- the largest power of two within a number
power_more : (m k : ℕ) → PowerWithin m k → (t : Bool) → ltb (suc m) (2 ^ suc k) ≡ t → (j : ℕ) × PowerWithin (suc m) j
power_more m k p true e = (k, record { within = omega (arith, p.within); largest = ltb-true (suc m) (2 ^ suc k) e })
power_more m k p false e =
    let past = ltb-false (suc m) (2 ^ suc k) e in
    (suc k, record { within = past; largest = omega (arith, p.largest, p.within, pow_pos k) })

pub power_within : (m : ℕ) → 1 ≤ m → (k : ℕ) × PowerWithin m k
power_within zero le = absurd (omega arith)
power_within (suc zero) le = (0, record { within = omega arith; largest = omega arith })
power_within (suc (suc m)) le =
    let under = power_within (suc m) (omega arith) in
    power_more (suc m) under.0 under.1 (ltb (suc (suc m)) (2 ^ suc under.0)) refl

-- ---- a partition
pub visit_tests : (R : Rules) (v : View) (h : List ℕ) (q k : ℕ) → PowerWithin (v.start (suc q) - v.start q) k → tests_of (visit_of R v h q) ≤ fields_of R + k
visit_tests R v h q k power = go (visit_of R v h q) refl
  where
    go : (w : Walked) → visit_of R v h q ≡ w → tests_of w ≤ fields_of R + k
    go (Err b) is = omega arith
    go (Ok x) is =
        let w = visited_walks R v h q x.found x.tests is in
        let few =
        walk_few R v h (suc (rules_in R + fields_of R)) (v.start q) (v.start (suc q)) 0 0 (suc k) w.some (omega arith) power.largest x.found x.tests w.walks in
        omega (arith, few)

-- ---- sums
pub sum_le : (k q : ℕ) (g f : ℕ → ℕ) → ((j : ℕ) → q ≤ j → j < q + k → g j ≤ f j) → sum_from k q g ≤ sum_from k q f
unfolding sum_from
sum_le zero q g f h = omega arith
sum_le (suc k) q g f h =
    let here = h q (omega arith) (omega arith) in
    let rest = sum_le k (suc q) g f (λ j a b. h j (omega arith) (omega arith)) in
    omega arith

pub sum_same : (k q : ℕ) (g f : ℕ → ℕ) → ((j : ℕ) → g j ≡ f j) → sum_from k q g ≡ sum_from k q f
unfolding sum_from
sum_same zero q g f h = refl
sum_same (suc k) q g f h = rw (h q, sum_same k (suc q) g f h)

-- ---- the count
-- what holds of a rule and of none holds of an answer
module _ (R : Rules) (h : List ℕ) (best t : ℕ) where
  answered : (P : Result Looked Refusal → Type 0) → P (matched best t (edge_of R h best)) → P (unmatched t) → P (answer_of R h best t)
  answered P rule nothing = go (ltb best (rules_in R))
    where
      go : (p : Bool) → P (pick p (matched best t (edge_of R h best)) (unmatched t))
      go true = rule
      go false = nothing

  pub answer_tests : tests_in (answer_of R h best t) ≡ t
  answer_tests = answered (λ x. tests_in x ≡ t) refl refl

  pub answer_stands : refuses (answer_of R h best t) ≡ false
  answer_stands = answered (λ x. refuses x ≡ false) refl refl

-- what is read off a rule and off none without their tests is read off an answer without them
pub answer_alike : (R : Rules) (h : List ℕ) (best t u : ℕ) {A : Type 0} (f : Result Looked Refusal → A) → f (matched best t (edge_of R h best)) ≡ f (matched best u (edge_of R h best))
    → f (unmatched t) ≡ f (unmatched u) → f (answer_of R h best t) ≡ f (answer_of R h best u)
answer_alike R h best t u f rule nothing = go (ltb best (rules_in R))
  where
    go : (p : Bool) → f (pick p (matched best t (edge_of R h best)) (unmatched t)) ≡ f (pick p (matched best u (edge_of R h best)) (unmatched u))
    go true = rule
    go false = nothing

-- ---- the count is the sum, whatever a turn is
module _ (R : Rules) (h : List ℕ) (turn : ℕ → ℕ → Walked) where
  -- what each turn adds
  abbrev added : ℕ → ℕ
  added q = tests_of (turn_made (rules_in R) turn q)

  from_sum : (k q t : ℕ) → refuses (onward R h turn k q t) ≡ false → tests_in (onward R h turn k q t) ≡ t + sum_from k q added
  unfolding sum_from
  from_sum zero q t fine = omega (arith, ap tests_in (from_none R h turn q (candidate (rules_in R) turn q) t), answer_tests R h (candidate (rules_in R) turn q) t)
  from_sum (suc k) q t fine = go (turn_made (rules_in R) turn q) refl (from_sum k)
    where
      go : (w : Walked) → turn_made (rules_in R) turn q ≡ w → ((q t : ℕ) → refuses (onward R h turn k q t) ≡ false → tests_in (onward R h turn k q t) ≡ t + sum_from k q added)
          → tests_in (onward R h turn (suc k) q t) ≡ t + (tests_of w + sum_from k (suc q) added)
      go (Err b) is rest = let no = sym (ap refuses (made_broken R h turn k q t is)) ∙ fine in never (cc)
      go (Ok x) is rest =
          let onto = made_on R h turn k q t x.found x.tests is in
          omega (arith, ap tests_in onto, rest (suc q) (t + x.tests) (sym (ap refuses onto) ∙ fine))

  pub search_sum : (b : ℕ) → refuses (lookup_from R h turn b 0 (rules_in R) 0) ≡ false → tests_in (lookup_from R h turn b 0 (rules_in R) 0) ≡ sum_from b 0 added
  unfolding candidate
  search_sum b fine = omega (arith, from_sum b 0 0 fine)

-- what a turn adds: nothing where the partition is skipped
pub turn_tests : (R : Rules) (v : View) (h : List ℕ) (best q : ℕ)
    → tests_of (turn_of R v h best q) ≡ pick (skips (rules_in R) v.least best q) 0 (tests_of (visit_of R v h q))
unfolding turn_of
turn_tests R v h best q = go (skips (rules_in R) v.least best q)
  where
    go : (s : Bool) → tests_of (pick s (ran None 0) (visit_of R v h q)) ≡ pick s 0 (tests_of (visit_of R v h q))
    go true = refl
    go false = refl

-- and never more than a visit
pub picked_le : (s : Bool) (t : ℕ) → pick s 0 t ≤ t
picked_le true t = omega arith
picked_le false t = omega arith

module _ (R : Rules) (T h : List ℕ) where
  -- a lookup that is not refused opens
  fine_opens : refuses (lookup_of R T h) ≡ false → open_fault R T ≡ none
  unfolding lookup_of
  fine_opens = go (open_fault R T)
    where
      go : (x : Fault) → refuses (or_else x (search_of R (view_of R T) h)) ≡ false → x ≡ none
      go (Ok u) fine = refl
      go (Err x) fine = never (cc)

  pub lookup_sum : refuses (lookup_of R T h) ≡ false
      → tests_in (lookup_of R T h) ≡ sum_from (view_of R T).b 0 (λ q. pick (is_skipped R (view_of R T) h q) 0 (tests_of (visit_of R (view_of R T) h q)))
  lookup_sum fine =
      let search = lookup_searches R T h (fine_opens fine) in
      let v = view_of R T in
      ap tests_in search
      ∙ search_sum R h (turn_of R v h) v.b (ap refuses (sym search) ∙ fine)
      ∙ sum_same v.b 0 (λ q. tests_of (turn_made (rules_in R) (turn_of R v h) q)) (λ q. pick (is_skipped R v h q) 0 (tests_of (visit_of R v h q)))
      (λ q. turn_tests R v h (candidate (rules_in R) (turn_of R v h) q) q)

  pub none_costs_none : rules_in R ≡ 0 → open_fault R T ≡ none → lookup_of R T h ≡ unmatched 0
  none_costs_none none z =
      let few = (opened R T z).few_parts in
      let no-parts : (view_of R T).b ≡ 0 = omega arith in
      lookup_searches R T h z ∙ ap (λ b. lookup_from R h (turn_of R (view_of R T) h) b 0 (rules_in R) 0) no-parts ∙ from_none R h (turn_of R (view_of R T) h) 0 (rules_in R) 0
      ∙ rw (le-ltb (rules_in R) (rules_in R) (omega arith))
