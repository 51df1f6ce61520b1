-- A walk through a partition of a table that keeps the promise is never broken, and it finds the rule of the partition that fits, if
-- there is one: by the invariant of its groups (`Groups.antt`), at each test and at each of its ends.
--     Finds, walk_finds        the walk finds what fits
-- Assumes nothing.
use Prim.Native.Nat.{ℕ, zero, suc, ◌+◌, ◌-◌, ◌≤◌, ◌<◌}
use mathlib.Core.Bool.{Bool, true, false}
use mathlib.Core.List.{List}
use mathlib.Core.Path.{◌≡◌, refl, sym, ap, ◌∙◌}
use native.Mathlib.Omega.{arith}
use lib.ListN.{get_or}
use lib.Dec.{ltb}
use borrow.Author.Tests.{ltb-true, ltb-false}
use Rattle.std.specs.Prelude.{Option, Some, None}
use Rattle.ranges.specs.declared.side.Side.{Side}
use Rattle.ranges.specs.declared.side.Side.TheVariants.{Below, Above, Inside}
use Rattle.ranges.proofs.Sides.{is_below, is_above, is_inside_lem}
use Rattle.lists.specs.Rules.{Rules, fields_of, rules_in, low_of, ends_at}
use Rattle.lists.specs.FirstMatch.{side_at, fits}
use Rattle.tables.specs.Layout.{View}
use Rattle.sorting.specs.Promise.{InPart, Promise}
use Rattle.lookup.specs.Walk.{Walked, ran, on, mid_of, leaves, step_at, walk_from}
use Rattle.lookup.proofs.Arrivals.{arrived_yes}
use Rattle.lookup.proofs.Steps.{trusted_stands, step_by, step-smaller}
use Rattle.lookup.proofs.Walks.{walk_empty, walk_arrives, walk_on}
use Rattle.lookup.proofs.Groups.{Held, held_part, placed_rule, run_trusted, held_below, held_above, held_inside, one_left, last_fits, last_rule}

-- w is an answer, which names the rule of the partition that fits, if there is one
pub record Finds (R : Rules) (v : View) (h : List ℕ) (q : ℕ) (w : Walked) : Type 0 where
  pub found : Option ℕ
  pub tests : ℕ
  pub is : w ≡ ran found tests
  pub finds : (r : ℕ) → InPart v q r → fits R h (v.order r) ≡ true → found ≡ Some (v.order r)

finds_by : {R : Rules} {v : View} {h : List ℕ} {q : ℕ} {w w' : Walked} → w ≡ w' → Finds R v h q w' → Finds R v h q w
finds_by same f = record { found = f.found; tests = f.tests; is = same ∙ f.is; finds = f.finds }

-- what a test at a member m leaves: never a broken table, and a group that has the invariant
record Leaves (R : Rules) (v : View) (h : List ℕ) (q s e f m : ℕ) : Type 0 where
  start : ℕ
  end : ℕ
  field : ℕ
  step : step_at R v h s e f m ≡ on start end field
  rest : Held R v h q start end field

module _ {R : Rules} {v : View} (h : List ℕ) (promise : Promise R v) where
  test_leaves : (q s e f m : ℕ) → Held R v h q s e f → f < fields_of R → s ≤ m → m < e → Leaves R v h q s e f m
  test_leaves q s e f m held in_row from to = go (side_at R h (v.order m) f) refl
    where
      rule : v.order m < rules_in R
      rule = placed_rule promise q m (held_part held m from to)

      by : (y : Side) → side_at R h (v.order m) f ≡ y → step_at R v h s e f m ≡ leaves y s e f (v.from m f) (v.to m f)
      by y is =
          step_by R v h s e f m (rules_in R) (v.order m) refl refl (v.from m f) (v.to m f) refl refl rule y
          (trusted_stands (run_trusted promise held in_row from to))
          (sym is)

      go : (y : Side) → side_at R h (v.order m) f ≡ y → Leaves R v h q s e f m
      go Below is =
          record {
            start = s;
            end = v.from m f;
            field = f;
            step = by Below is;
            rest = held_below promise held in_row from to (is_below (low_of R (v.order m) f) (ends_at R (v.order m) f) (get_or h f 0) is);
          }
      go Above is =
          record {
            start = v.to m f;
            end = e;
            field = f;
            step = by Above is;
            rest = held_above promise held in_row from to (is_above (low_of R (v.order m) f) (ends_at R (v.order m) f) (get_or h f 0) is);
          }
      go Inside is =
          record {
            start = v.from m f;
            end = v.to m f;
            field = f + 1;
            step = by Inside is;
            rest = held_inside promise held in_row from to (is_inside_lem (low_of R (v.order m) f) (ends_at R (v.order m) f) (get_or h f 0) is);
          }

  pub walk_finds : (q k s e f t : ℕ) → (e - s) + (fields_of R - f) < k → f ≤ fields_of R → Held R v h q s e f → Finds R v h q (walk_from R v h k s e f t)
  walk_finds q zero s e f t enough in_row held = absurd (omega arith)
  walk_finds q (suc k) s e f t enough in_row held = go (ltb s e) refl (ltb f (fields_of R)) refl (walk_finds q k)
    where
      go : (o : Bool) → ltb s e ≡ o → (p : Bool) → ltb f (fields_of R) ≡ p
          → ((s e f t : ℕ) → (e - s) + (fields_of R - f) < k → f ≤ fields_of R → Held R v h q s e f → Finds R v h q (walk_from R v h k s e f t))
          → Finds R v h q (walk_from R v h (suc k) s e f t)
      -- an empty group: nothing fits
      go false is-o p is_p rest =
          let none = ltb-false s e is-o in
          record {
            found = None;
            tests = t;
            is = walk_empty R v h k s e f t none;
            finds = λ r in-r fit. let at = held.covers r in-r fit in absurd (omega (arith, at.0, at.1));
          }
      -- field d: what fits is the place that is left
      go true is-o false is_p rest =
          let some = ltb-true s e is-o in
          let at-end : f ≡ fields_of R = omega (arith, ltb-false f (fields_of R) is_p) in
          let last = rw at-end at held in
          let one = one_left promise last some in
          record {
            found = Some (v.order s);
            tests = t;
            is = walk_arrives R v h k s e f t some (omega arith) ∙ arrived_yes R v h s e t one (last_rule promise last some) (last_fits promise last some);
            finds = λ r in-r fit.
                let at = held.covers r in-r fit in
                let is-s : s ≡ r = omega (arith, at.0, at.1, one) in
                ap (λ p. Some (v.order p)) is-s;
          }
      -- a test, and the walk on what it leaves
      go true is-o true is_p rest =
          let some = ltb-true s e is-o in
          let row = ltb-true f (fields_of R) is_p in
          let l = test_leaves q s e f (mid_of s e) held row (omega arith) (omega arith) in
          let less = step-smaller R v h (fields_of R) s e f l.start l.end l.field some row l.step in
          finds_by (walk_on R v h k s e f t some row l.start l.end l.field l.step)
          (rest l.start l.end l.field (t + 1) (omega (arith, less.falls)) less.field l.rest)
