-- The tests of a linear audit (`specs/Checks.antt`) pass exactly where the local facts hold (`specs/Checked.antt`).
--     fault_none                            a test for refusals that passes
--     Passed, passed, passed_all            all tests, one by one
--     passed_checked, checked_passed        they say what the facts say, either way
--     laid_open, laid_few, laid_parted      what a test may rely on that comes after others
-- Assumes nothing.
use Prim.Native.Nat.{ℕ, zero, suc, ◌+◌, ◌-◌, ◌≤◌, ◌<◌}
use mathlib.Core.Bool.{Bool, true, false, not}
use mathlib.Core.List.{List}
use mathlib.Core.Path.{◌≡◌, refl, sym, ap, ◌∙◌, subst}
use native.Mathlib.Omega.{arith}
use lib.Dec.{ltb, eqb}
use lib.ListN.{get_or}
use borrow.Author.Tests.{lt-ltb, le-ltb, eq-eqb, ne_eqb, ltb-true, ltb-false, eqb-true, not-true, not-false}
use Rattle.ranges.specs.Numbers.{pick, ◌and◌, all}
use Rattle.std.specs.Prelude.{Ok, Err}
use Rattle.std.specs.Result.{is_err}
use Rattle.ranges.specs.Refusals.{Fault, none, stands}
use Rattle.ranges.proofs.Numbers.{true-not-false, and_left, and_right, and_both, all_yes, all_at}
use Rattle.lists.specs.Limits.{most_fields, most_rules}
use Rattle.lists.specs.Rules.{Rules, fields_of, rules_in, Shaped}
use Rattle.ordering.specs.Order.{before, before_by}
use Rattle.ordering.proofs.BothIn.{by_says, by_yes}
use Rattle.tables.specs.Layout.{View, TableFor, b_at, start_in}
use Rattle.tables.specs.Opening.{view_of, open_fault}
use Rattle.tables.proofs.Opened.{Opened, opened, opened_none}
use Rattle.sorting.specs.Promise.{InPart, Smallest}
use Rattle.auditing.specs.Checked.{joined, Neighbours, Checked}
use Rattle.auditing.proofs.Minimum.{least-smallest, smallest_once}
use Rattle.auditing.specs.Checks.{start_fine, rule_fine, least_from, least_fine, meets, end_fine, next_by, next_fine, span_fine, part_fine, parts_fine, checks, Parted}

pub fault_none : (x : Fault) → stands x ≡ true → x ≡ none
fault_none (Ok u) e = refl
fault_none (Err x) e = absurd (true-not-false e refl)

-- ---- one start
module _ (b : ℕ) (start : ℕ → ℕ) (q : ℕ) where
  start_up : q < b → start_fine b start q ≡ true → start q < start (suc q)
  unfolding start_fine
  start_up lt e = ltb-true (start q) (start (suc q)) (rw (lt-ltb q b lt) at e)

  start_zero : b ≤ q → start_fine b start q ≡ true → start (suc q) ≡ 0
  unfolding start_fine
  start_zero le e = eqb-true (start (suc q)) 0 (rw (le-ltb q b le) at e)

  up_start : q < b → start q < start (suc q) → start_fine b start q ≡ true
  unfolding start_fine
  up_start lt up = rw (lt-ltb q b lt, lt-ltb (start q) (start (suc q)) up)

  zero_start : b ≤ q → start (suc q) ≡ 0 → start_fine b start q ≡ true
  unfolding start_fine
  zero_start le z = rw (le-ltb q b le, eq-eqb (start (suc q)) 0 z)

-- starts that ascend up to start b are at most it
up_to : (b : ℕ) (start : ℕ → ℕ) → ((q : ℕ) → q < b → start q < start (suc q)) → (k q : ℕ) → q + k ≡ b → start q ≤ start b
up_to b start ascend zero q e = let is : q ≡ b = omega arith in rw is (omega arith)
up_to b start ascend (suc k) q e = omega (arith, ascend q (omega arith), up_to b start ascend k (suc q) (omega arith))

-- ---- one rule
module _ (n : ℕ) (order : ℕ → ℕ) (p : ℕ) where
  abbrev other : ℕ → Bool
  other r = not (eqb (order r) (order p))

  rule_told : rule_fine n order p ≡ true → (order p < n) × ((r : ℕ) → r < p → order r ≡ order p → ⊥)
  unfolding rule_fine
  rule_told e =
      let a = ltb (order p) n in
      let b = all p other in (
        ltb-true (order p) n (and_left a b e),
        λ r lt same. true-not-false (eq-eqb (order r) (order p) same) (not-true (eqb (order r) (order p)) (all_at other p (and_right a b e) r lt)),
      )

  rule_yes : order p < n → ((r : ℕ) → r < p → order r ≡ order p → ⊥) → rule_fine n order p ≡ true
  unfolding rule_fine
  rule_yes lt unlike = rw (lt-ltb (order p) n lt, all_yes other p (λ r l. ap not (ne_eqb (order r) (order p) (unlike r l))))

-- ---- one smallest number
module _ (n : ℕ) (v : View) (q : ℕ) where
  abbrev fine : Bool
  fine = least_fine n v.b v.order v.start v.least q

  abbrev lowest : ℕ
  lowest = least_from n v.order (v.start q) (v.start (suc q))

  least_told : q < v.b → fine ≡ true → v.least q ≡ lowest
  unfolding least_fine
  least_told lt e = eqb-true (v.least q) lowest (rw (lt-ltb q v.b lt) at e)

  least_zero : v.b ≤ q → fine ≡ true → v.least q ≡ 0
  unfolding least_fine
  least_zero le e = eqb-true (v.least q) 0 (rw (le-ltb q v.b le) at e)

  told_least : q < v.b → v.least q ≡ lowest → fine ≡ true
  unfolding least_fine
  told_least lt is = rw (lt-ltb q v.b lt) (eq-eqb (v.least q) lowest is)

  zero-least : v.b ≤ q → v.least q ≡ 0 → fine ≡ true
  unfolding least_fine
  zero-least le z = rw (le-ltb q v.b le) (eq-eqb (v.least q) 0 z)

-- ---- a partition from s to before e
module _ (R : Rules) (v : View) (s e : ℕ) where
  abbrev nexts : ℕ → Bool
  nexts k = next_fine R v (s + k)

  span_ends : span_fine R v s e ≡ true → (f : ℕ) → f < fields_of R → end_fine v s e f ≡ true
  unfolding span_fine
  span_ends t = all_at (end_fine v s e) (fields_of R) (and_left (all (fields_of R) (end_fine v s e)) (all (e - s - 1) nexts) t)

  span_next : span_fine R v s e ≡ true → (p : ℕ) → s ≤ p → suc p < e → next_fine R v p ≡ true
  unfolding span_fine
  span_next t p low high =
      let is : s + (p - s) ≡ p = omega arith in
      subst (λ x. next_fine R v x ≡ true) is
      (all_at nexts (e - s - 1) (and_right (all (fields_of R) (end_fine v s e)) (all (e - s - 1) nexts) t) (p - s) (omega arith))

  span_yes : ((f : ℕ) → f < fields_of R → end_fine v s e f ≡ true) → ((p : ℕ) → s ≤ p → suc p < e → next_fine R v p ≡ true) → span_fine R v s e ≡ true
  unfolding span_fine
  span_yes ends next =
      rw (all_yes (end_fine v s e) (fields_of R) ends, all_yes nexts (e - s - 1) (λ k lt. next (s + k) (omega arith) (omega arith)))

  module _ (f : ℕ) where
    end_told : end_fine v s e f ≡ true → (v.from s f ≡ s) × (v.to (e - 1) f ≡ e)
    unfolding end_fine
    end_told t =
        let a = eqb (v.from s f) s in
        let b = eqb (v.to (e - 1) f) e in
        (eqb-true (v.from s f) s (and_left a b t), eqb-true (v.to (e - 1) f) e (and_right a b t))

    end_yes : v.from s f ≡ s → v.to (e - 1) f ≡ e → end_fine v s e f ≡ true
    unfolding end_fine
    end_yes p q = rw (eq-eqb (v.from s f) s p, eq-eqb (v.to (e - 1) f) e q)

-- ---- two neighbours, whose rules have their first a fields alike
module _ (R : Rules) (v : View) (p a : ℕ) where
  abbrev from_by : ℕ → ℕ
  from_by f = pick (ltb f a) (v.from p f) (suc p)

  abbrev to_by : ℕ → ℕ
  to_by f = pick (ltb f a) (v.to (suc p) f) (suc p)

  by_told : next_by R v p a ≡ true → (a < most_fields) × ((f : ℕ) → f < fields_of R → (v.from (suc p) f ≡ from_by f) × (v.to p f ≡ to_by f))
  unfolding meets
  by_told e =
      let s = ltb a most_fields in
      let t = all (fields_of R) (meets v a p) in (
        ltb-true a most_fields (and_left s t e),
        λ f in_row.
            let here = all_at (meets v a p) (fields_of R) (and_right s t e) f in_row in
            let x = eqb (v.from (suc p) f) (from_by f) in
            let y = eqb (v.to p f) (to_by f) in
            (eqb-true (v.from (suc p) f) (from_by f) (and_left x y here), eqb-true (v.to p f) (to_by f) (and_right x y here)),
      )

  by_passes : a < most_fields → ((f : ℕ) → f < fields_of R → (v.from (suc p) f ≡ from_by f) × (v.to p f ≡ to_by f)) → next_by R v p a ≡ true
  unfolding meets
  by_passes lt rows =
      rw (lt-ltb a most_fields lt)
      (all_yes (meets v a p) (fields_of R)
      (λ f in_row.
      and_both (eqb (v.from (suc p) f) (from_by f)) (eqb (v.to p f) (to_by f))
      (eq-eqb (v.from (suc p) f) (from_by f) (rows f in_row).0) (eq-eqb (v.to p f) (to_by f) (rows f in_row).1)))

-- what two neighbours are whose test passes
record Ordered (R : Rules) (v : View) (p : ℕ) : Type 0 where
  first : before R (v.order p) (v.order (suc p)) ≡ true
  rows : (f : ℕ) → f < fields_of R → (v.from (suc p) f ≡ from_by R v p (joined R v p) f) × (v.to p f ≡ to_by R v p (joined R v p) f)

module _ {R : Rules} (v : View) (p : ℕ) (s : Shaped R) (is_i : v.order p < rules_in R) (is-j : v.order (suc p) < rules_in R) where
  abbrev by : ℕ
  by = before_by R (v.order p) (v.order (suc p))

  next_told : next_fine R v p ≡ true → Ordered R v p
  unfolding next_fine
  next_told e =
      let told = by_told R v p by e in
      let says = by_says R (v.order p) (v.order (suc p)) s is_i is-j told.0 in
      record { first = says.0; rows = subst (λ a. (f : ℕ) → f < fields_of R → (v.from (suc p) f ≡ from_by R v p a f) × (v.to p f ≡ to_by R v p a f)) says.1 told.1 }

  next_yes : Ordered R v p → next_fine R v p ≡ true
  unfolding next_fine
  next_yes h =
      let says = by_yes R (v.order p) (v.order (suc p)) s is_i is-j h.first in
      by_passes R v p by says.0 (subst (λ a. (f : ℕ) → f < fields_of R → (v.from (suc p) f ≡ from_by R v p a f) × (v.to p f ≡ to_by R v p a f)) (sym says.1) h.rows)

-- ---- all tests, one by one
pub record Passed (R : Rules) (T : List ℕ) : Type 0 where
  pub opens : Opened R T
  pub starts : (q : ℕ) → q < rules_in R → start_fine (view_of R T).b (view_of R T).start q ≡ true
  pub rules : (p : ℕ) → p < rules_in R → rule_fine (rules_in R) (view_of R T).order p ≡ true
  pub leasts : (q : ℕ) → q < rules_in R → least_fine (rules_in R) (view_of R T).b (view_of R T).order (view_of R T).start (view_of R T).least q ≡ true
  pub parts : (q : ℕ) → q < (view_of R T).b → part_fine R (view_of R T) q ≡ true

module _ (R : Rules) (T : List ℕ) where
  abbrev v : View
  v = view_of R T

  abbrev starting : Bool
  starting = all (rules_in R) (start_fine v.b v.start)

  abbrev ruling : Bool
  ruling = all (rules_in R) (rule_fine (rules_in R) v.order)

  abbrev least_at : ℕ → Bool
  least_at = least_fine (rules_in R) v.b v.order v.start v.least

  abbrev leasting : Bool
  leasting = all (rules_in R) least_at

  abbrev parting : Bool
  parting = all v.b (part_fine R v)

  pub passed : checks R T ≡ true → Passed R T
  unfolding checks parts_fine
  passed e =
      let o = stands (open_fault R T) in
      let rest = and_right o (starting and ruling and leasting and parting) e in
      let behind = and_right starting (ruling and leasting and parting) rest in
      let last = and_right ruling (leasting and parting) behind in
      record {
        opens = opened R T (fault_none (open_fault R T) (and_left o (starting and ruling and leasting and parting) e));
        starts = all_at (start_fine v.b v.start) (rules_in R) (and_left starting (ruling and leasting and parting) rest);
        rules = all_at (rule_fine (rules_in R) v.order) (rules_in R) (and_left ruling (leasting and parting) behind);
        leasts = all_at least_at (rules_in R) (and_left leasting parting last);
        parts = all_at (part_fine R v) v.b (and_right leasting parting last);
      }

  pub passed_all : Passed R T → checks R T ≡ true
  unfolding checks parts_fine
  passed_all h =
      rw (
        opened_none h.opens,
        all_yes (start_fine v.b v.start) (rules_in R) h.starts,
        all_yes (rule_fine (rules_in R) v.order) (rules_in R) h.rules,
        all_yes least_at (rules_in R) h.leasts,
        all_yes (part_fine R v) v.b h.parts,
      )

-- ---- the tests say what the facts say
-- in a table whose starts ascend, a place of a partition is one of the n
module _ {R : Rules} {T : List ℕ} (o : Opened R T) (ascend : (q : ℕ) → q < (view_of R T).b → (view_of R T).start q < (view_of R T).start (suc q)) where
  ends_within : (q : ℕ) → q < (view_of R T).b → (view_of R T).start (suc q) ≤ rules_in R
  ends_within q lt = omega (arith, up_to (view_of R T).b (view_of R T).start ascend ((view_of R T).b - suc q) (suc q) (omega arith), o.last_start)

  near_place : (q p : ℕ) → Neighbours (view_of R T) q p → suc p < rules_in R
  near_place q p at = omega (arith, at.to_next, ends_within q at.part)

  -- its smallest rule number
  lowest_is : ((p : ℕ) → p < rules_in R → (view_of R T).order p < rules_in R) → (q : ℕ) → q < (view_of R T).b → Smallest (view_of R T) q (lowest (rules_in R) (view_of R T) q)
  lowest_is rule q lt =
      let all-below : (p : ℕ) → InPart (view_of R T) q p → (view_of R T).order p < rules_in R = λ p at. rule p (omega (arith, at.to_next, ends_within q lt)) in
      least-smallest (view_of R T) (rules_in R) q lt (ascend q lt) all-below

module _ (R : Rules) (T : List ℕ) where
  abbrev w : View
  w = view_of R T

  pub passed_checked : Passed R T → Checked R (view_of R T)
  passed_checked h =
      let o = h.opens in
      record {
        rules = o.rules;
        fields = o.fields;
        few_parts = o.few_parts;
        first_start = o.first_start;
        last_start = o.last_start;
        ascend = up;
        zeros = λ q past le.
            let is : suc (q - 1) ≡ q = omega arith in
            subst (λ x. w.start x ≡ 0) is (start_zero w.b w.start (q - 1) (omega arith) (h.starts (q - 1) (omega arith)));
        smallest = λ q lt. rw (least_told (rules_in R) w q lt (h.leasts q (omega (arith, o.few_parts)))) (lowest_is o up rule q lt);
        no_least = λ q past lt. least_zero (rules_in R) w q past (h.leasts q lt);
        order_rule = rule;
        order_once = once;
        sorted = λ q p at. (near q p at).first;
        from_first = λ q f lt in_row. (ends q lt f in_row).0;
        from_next = λ q p f at in_row. ((near q p at).rows f in_row).0;
        to_last = λ q p f lt e in_row.
            let is : w.start (suc q) - 1 ≡ p = omega arith in
            subst (λ x. w.to x f ≡ w.start (suc q)) is (ends q lt f in_row).1 ∙ sym e;
        to_next = λ q p f at in_row. ((near q p at).rows f in_row).1;
      }
    where
      up : (q : ℕ) → q < w.b → w.start q < w.start (suc q)
      up q lt = start_up w.b w.start q lt (h.starts q (omega (arith, h.opens.few_parts)))

      rule : (p : ℕ) → p < rules_in R → w.order p < rules_in R
      rule p lt = (rule_told (rules_in R) w.order p (h.rules p lt)).0

      once : (p r : ℕ) → p < rules_in R → r < rules_in R → w.order p ≡ w.order r → p ≡ r
      once p r is_p is_r e = go (ltb p r) (ltb r p) refl refl
        where
          go : (s t : Bool) → ltb p r ≡ s → ltb r p ≡ t → p ≡ r
          go true t a b = absurd ((rule_told (rules_in R) w.order r (h.rules r is_r)).1 p (ltb-true p r a) e)
          go false true a b = absurd ((rule_told (rules_in R) w.order p (h.rules p is_p)).1 r (ltb-true r p b) (sym e))
          go false false a b = omega (arith, ltb-false p r a, ltb-false r p b)

      ends : (q : ℕ) → q < w.b → (f : ℕ) → f < fields_of R → (w.from (w.start q) f ≡ w.start q) × (w.to (w.start (suc q) - 1) f ≡ w.start (suc q))
      ends q lt f in_row = end_told R w (w.start q) (w.start (suc q)) f (span_ends R w (w.start q) (w.start (suc q)) (h.parts q lt) f in_row)

      near : (q p : ℕ) → Neighbours w q p → Ordered R w p
      near q p at =
          let is_r = near_place h.opens up q p at in
          next_told w p h.opens.shape_stands (rule p (omega arith)) (rule (suc p) is_r)
          (span_next R w (w.start q) (w.start (suc q)) (h.parts q at.part) p at.from_start at.to_next)

  pub checked_passed : Shaped R → TableFor (rules_in R) (fields_of R) T → Checked R (view_of R T) → Passed R T
  checked_passed s sized h =
      record {
        opens = o;
        starts = λ q lt. start q lt (ltb q w.b) refl;
        rules = λ p lt. rule_yes (rules_in R) w.order p (h.order_rule p lt) (λ r l e. omega (arith, h.order_once r p (omega arith) lt e));
        leasts = λ q lt. least q lt (ltb q w.b) refl;
        parts = λ q lt. span_yes R w (w.start q) (w.start (suc q)) (ends q lt) (λ p low high. next q p (record { part = lt; from_start = low; to_next = high }));
      }
    where
      o : Opened R T
      o =
          record {
            shape_stands = s;
            sized = sized;
            rules = h.rules;
            fields = h.fields;
            few_parts = h.few_parts;
            first_start = h.first_start;
            last_start = h.last_start;
          }

      start : (q : ℕ) → q < rules_in R → (t : Bool) → ltb q w.b ≡ t → start_fine w.b w.start q ≡ true
      start q lt true e = let few = ltb-true q w.b e in up_start w.b w.start q few (h.ascend q few)
      start q lt false e = let past = ltb-false q w.b e in zero_start w.b w.start q past (h.zeros (suc q) (omega arith) lt)

      least : (q : ℕ) → q < rules_in R → (t : Bool) → ltb q w.b ≡ t → least_fine (rules_in R) w.b w.order w.start w.least q ≡ true
      least q lt true e =
          let few = ltb-true q w.b e in
          told_least (rules_in R) w q few (smallest_once (h.smallest q few) (lowest_is o h.ascend h.order_rule q few))
      least q lt false e = let past = ltb-false q w.b e in zero-least (rules_in R) w q past (h.no_least q past lt)

      ends : (q : ℕ) → q < w.b → (f : ℕ) → f < fields_of R → end_fine w (w.start q) (w.start (suc q)) f ≡ true
      ends q lt f in_row =
          let up = h.ascend q lt in
          let is : suc (w.start (suc q) - 1) ≡ w.start (suc q) = omega arith in
          end_yes R w (w.start q) (w.start (suc q)) f (h.from_first q f lt in_row) (h.to_last q (w.start (suc q) - 1) f lt is in_row ∙ is)

      next : (q p : ℕ) → Neighbours w q p → next_fine R w p ≡ true
      next q p at =
          let is_r = near_place o h.ascend q p at in
          next_yes w p s (h.order_rule p (omega arith)) (h.order_rule (suc p) is_r)
          (record { first = h.sorted q p at; rows = λ f in_row. (h.from_next q p f at in_row, h.to_next q p f at in_row) })

-- ---- as the code makes them: x is the opening's refusal, if there is one
not_err : (x : Fault) → false ≡ is_err x → x ≡ none
not_err (Ok u) e = refl
not_err (Err x) e = absurd (true-not-false e refl)

pub laid_open : {R : Rules} {T : List ℕ} {x : Fault} → x ≡ open_fault R T → false ≡ is_err x → Opened R T
laid_open {R} {T} {x} is_x e = opened R T (sym is_x ∙ not_err x e)

-- of a table that opens: n is the number of rules
module _ {R : Rules} {T : List ℕ} (o : Opened R T) {n : ℕ} (is_n : n ≡ rules_in R) where
  pub laid_few : n ≤ most_rules
  laid_few = omega (arith, o.shape_stands.few_rules)

  -- s is what was said of the starts
  pub laid_parted : {s : Bool} → s ≡ all n (start_fine (get_or T b_at 0) (start_in n T)) → not s ≡ false → Parted R n (fields_of R) T
  laid_parted {s} is-s ascend =
      let fine : all n (start_fine (get_or T b_at 0) (start_in n T)) ≡ true = sym is-s ∙ not-false s ascend in
      let up : (q : ℕ) → q < get_or T b_at 0 → (view_of R T).start q < (view_of R T).start (suc q)
      = λ q lt. start_up (get_or T b_at 0) (view_of R T).start q lt
      (all_at (start_fine (view_of R T).b (view_of R T).start) (rules_in R) (rw is_n at fine) q (omega (arith, o.few_parts))) in
      rw is_n
      record {
        held = record { shape_stands = o.shape_stands; is_n = refl; is_d = refl; sized = o.sized };
        few = o.few_parts;
        ascend = up;
        within = ends_within o up;
      }
