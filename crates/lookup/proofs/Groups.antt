-- What holds of a group of places at field f in a table that keeps the promise (`sorting`, `specs/Promise.antt`), and that a test keeps it.
-- The invariant, `Held`: the places are of the partition; their rules have the same ranges in fields 0 to before f, with the header's
-- numbers inside; a place of the partition that agrees with a member on fields 0 to f is a member, too, so that the run of the middle
-- lies within the group; and every place whose rule fits is a member. A test keeps this, since of two places that agree on the fields
-- before f, the earlier is under the later in field f or agrees with it there (`split`).
--     split, between           of two places of a partition that agree on the fields before f, and of a place between two that agree
--     Held, held_first         the invariant, and that a whole partition has it
--     run_trusted              the middle's run lies within the group
--     held_below, held_above, held_inside      what a test leaves has it
--     one_left, last_fits, last_rule           at field d one place is left, and its rule is one of the list and fits
-- Assumes nothing.
use Prim.Native.Nat.{ℕ, zero, suc, ◌+◌, ◌-◌, ◌≤◌, ◌<◌}
use mathlib.Core.Bool.{Bool, true, false}
use mathlib.Core.List.{List}
use mathlib.Core.Logic.{◌⊎◌, inl, inr, ⊎_elim}
use mathlib.Core.Path.{◌≡◌, refl, sym, ap, subst}
use native.Mathlib.Omega.{arith}
use native.Mathlib.Nat.{lt_of_not-le, le_of_suc-le-suc}
use native.Mathlib.Numerals.{add-one}
use lib.ListN.{get_or}
use lib.Dec.{ltb}
use borrow.Author.Tests.{ltb-true, ltb-false}
use Rattle.ranges.proofs.Numbers.{all_yes, all_at}
use Rattle.ranges.proofs.Sides.{inside_at_lem, inside_yes}
use Rattle.lists.specs.Rules.{Rules, fields_of, rules_in, low_of, ends_at}
use Rattle.lists.specs.FirstMatch.{inside_at, fits}
use Rattle.tables.specs.Layout.{View}
use Rattle.ranges.specs.Standings.{is_alike}
use Rattle.ordering.specs.Order.{compare}
use Rattle.sorting.specs.Promise.{InPart, Run, Promise}
use Rattle.ranges.specs.declared.standing.Standing.TheVariants.{Alike}
use Rattle.lists.proofs.Sound.{Sound}
use Rattle.ranges.proofs.Standings.{alike_is}
use Rattle.ordering.proofs.Comparing.{compare-none, alike_refl, alike-sym, alike_trans, alike_fewer, alike_fields_lem}
use Rattle.ordering.proofs.Ordering.{Under, before_at, convex}
use Rattle.lookup.proofs.Steps.{Trusted}

-- ---- what a promise says of the partitions
module _ {R : Rules} {v : View} (promise : Promise R v) where
  pub sound : Sound R
  sound = record { ends = promise.sound }

  -- the starts ascend to n
  pub starts_within : (k q : ℕ) → q + k ≡ v.b → v.start q ≤ rules_in R
  starts_within zero q is =
      let at_b : q ≡ v.b = omega arith in
      omega (arith, ap v.start at_b, promise.last_start)
  starts_within (suc k) q is = omega (arith, promise.ascend q (omega arith), starts_within k (suc q) (omega arith))

  -- a place of a partition is a place of the table, and its rule one of the list
  pub place : (q p : ℕ) → InPart v q p → p < rules_in R
  place q p at = omega (arith, at.to_next, starts_within (v.b - suc q) (suc q) (omega (arith, at.part)))

  pub placed_rule : (q p : ℕ) → InPart v q p → v.order p < rules_in R
  placed_rule q p at = promise.order_rule p (place q p at)

-- ---- two places of a partition
module _ {R : Rules} {v : View} (promise : Promise R v) (q : ℕ) where
  -- their rules have the same ranges in the first m fields
  abbrev Agrees : ℕ → ℕ → ℕ → Type 0
  Agrees p r m = compare R (v.order p) (v.order r) m ≡ Alike

  -- of two that agree on the fields before f, the earlier agrees with the later in field f, or is under it there
  pub split : (p r f : ℕ) → InPart v q p → InPart v q r → p < r → Agrees p r f → Agrees p r (suc f) ⊎ (ends_at R (v.order p) f ≤ low_of R (v.order r) f)
  split p r f in_p in-r lt same = go (ltb f g) refl (ltb g f) refl
    where
      u : Under R (v.order p) (v.order r)
      u = before_at R (v.order p) (v.order r) (promise.sorted q p r in_p in-r lt)

      g : ℕ
      g = u.field

      go : (s : Bool) → ltb f g ≡ s → (t : Bool) → ltb g f ≡ t → Agrees p r (suc f) ⊎ (ends_at R (v.order p) f ≤ low_of R (v.order r) f)
      go true e t d = inl (alike_fewer R (v.order p) (v.order r) (suc f) g (ltb-true f g e) u.same)
      -- under in a field in which they agree
      go false e true d =
          let low = (alike_fields_lem R (v.order p) (v.order r) f same g (ltb-true g f d)).0 in
          absurd (omega (arith, low, u.under, promise.sound (v.order p) g (placed_rule promise q p in_p) u.inside))
      go false e false d =
          let is : g ≡ f = omega (arith, ltb-false f g e, ltb-false g f d) in
          inr (subst (λ k. ends_at R (v.order p) k ≤ low_of R (v.order r) k) is u.under)

  -- a place between two that agree by m fields agrees with both
  pub between : (p m r k : ℕ) → InPart v q p → InPart v q m → InPart v q r → p < m → m < r → Agrees p r k → Agrees p m k × Agrees m r k
  between p m r k in_p in_m in-r lt lt' same =
      convex R (sound promise) (v.order p) (v.order m) (v.order r) k (placed_rule promise q p in_p) (placed_rule promise q m in_m)
      (promise.sorted q p m in_p in_m lt) (promise.sorted q m r in_m in-r lt') same

-- ---- the invariant
pub record Held (R : Rules) (v : View) (h : List ℕ) (q s e f : ℕ) : Type 0 where
  pub part : q < v.b
  pub from_start : v.start q ≤ s
  pub to_next : e ≤ v.start (suc q)
  pub same : (p r : ℕ) → s ≤ p → p < e → s ≤ r → r < e → compare R (v.order p) (v.order r) f ≡ Alike
  pub inside : (p g : ℕ) → s ≤ p → p < e → g < f → inside_at R h (v.order p) g ≡ true
  pub closed : (p r : ℕ) → s ≤ p → p < e → InPart v q r → compare R (v.order r) (v.order p) (suc f) ≡ Alike → (s ≤ r) × (r < e)
  pub covers : (r : ℕ) → InPart v q r → fits R h (v.order r) ≡ true → (s ≤ r) × (r < e)

-- a whole partition
pub held_first : (R : Rules) (v : View) (h : List ℕ) (q : ℕ) → q < v.b → Held R v h q (v.start q) (v.start (suc q)) 0
held_first R v h q lt =
    record {
      part = lt;
      from_start = omega arith;
      to_next = omega arith;
      same = λ p r a b c d. compare-none R (v.order p) (v.order r);
      inside = λ p g a b c. absurd (omega arith);
      closed = λ p r a b in-r like. (in-r.from_start, in-r.to_next);
      covers = λ r in-r fit. (in-r.from_start, in-r.to_next);
    }

-- a member is a place of the partition
pub held_part : {R : Rules} {v : View} {h : List ℕ} {q s e f : ℕ} → Held R v h q s e f → (p : ℕ) → s ≤ p → p < e → InPart v q p
held_part held p a b = record { part = held.part; from_start = omega (arith, held.from_start); to_next = omega (arith, held.to_next) }

-- ---- a test
module _ {R : Rules} {v : View} {h : List ℕ} (promise : Promise R v) {q s e f m : ℕ} (held : Held R v h q s e f)
    (in_row : f < fields_of R) (from : s ≤ m) (to : m < e) where
  in_m : InPart v q m
  in_m = held_part held m from to

  run : Run R v q m f
  run = promise.runs q m f in_m in_row

  -- the middle's run: the places of the partition that agree with it on fields 0 to f
  in_run_lem : (r : ℕ) → InPart v q r → compare R (v.order r) (v.order m) (suc f) ≡ Alike → (v.from m f ≤ r) × (r < v.to m f)
  in_run_lem r in-r like = run.whole r in-r (ap is_alike like)

  of_run : (r : ℕ) → v.from m f ≤ r → r < v.to m f → compare R (v.order r) (v.order m) (suc f) ≡ Alike
  of_run r a b = alike_is (compare R (v.order r) (v.order m) (suc f)) (run.same r a b)

  run_part : (r : ℕ) → v.from m f ≤ r → r < v.to m f → InPart v q r
  run_part r a b = record { part = held.part; from_start = omega (arith, run.from_start); to_next = omega (arith, run.to_next) }

  pub run_trusted : Trusted s e m (v.from m f) (v.to m f)
  run_trusted =
      let here = run.from_here in
      let there = run.to_here in
      let first = v.from m f in
      let last = v.to m f - 1 in
      let at_first = held.closed m first from to (run_part first (omega arith) (omega arith)) (of_run first (omega arith) (omega arith)) in
      let at_last = held.closed m last from to (run_part last (omega arith) (omega arith)) (of_run last (omega arith) (omega arith)) in
      record { from_start = at_first.0; from_here = here; to_here = there; to_end = omega (arith, at_last.1) }

  -- the header's number in field f lies in the range of a rule that fits
  fit_inside : (r : ℕ) → fits R h (v.order r) ≡ true → (low_of R (v.order r) f ≤ get_or h f 0) × (get_or h f 0 < ends_at R (v.order r) f)
  unfolding fits
  fit_inside r fit =
      inside_at_lem (low_of R (v.order r) f) (ends_at R (v.order r) f) (get_or h f 0) (all_at (inside_at R h (v.order r)) (fields_of R) fit f in_row)

  -- a place of the run has the middle's range in field f
  like_low : (r : ℕ) → compare R (v.order r) (v.order m) (suc f) ≡ Alike → low_of R (v.order r) f ≡ low_of R (v.order m) f
  like_low r like = (alike_fields_lem R (v.order r) (v.order m) (suc f) like f (omega arith)).0

  like_ends : (r : ℕ) → compare R (v.order r) (v.order m) (suc f) ≡ Alike → ends_at R (v.order r) f ≡ ends_at R (v.order m) f
  like_ends r like = (alike_fields_lem R (v.order r) (v.order m) (suc f) like f (omega arith)).1

  some_m : low_of R (v.order m) f < ends_at R (v.order m) f
  some_m = promise.sound (v.order m) f (placed_rule promise q m in_m) in_row

  -- the middle and a later member
  later : (r : ℕ) → InPart v q r → m < r → r < e → (compare R (v.order r) (v.order m) (suc f) ≡ Alike) ⊎ (ends_at R (v.order m) f ≤ low_of R (v.order r) f)
  later r in-r lt b =
      ⊎_elim (λ like. inl (alike-sym R (suc f) (v.order m) (v.order r) like)) inr
      (split promise q m r f in_m in-r lt (held.same m r from to (omega arith) b))

  -- an earlier member and the middle
  earlier : (r : ℕ) → InPart v q r → s ≤ r → r < m → (compare R (v.order r) (v.order m) (suc f) ≡ Alike) ⊎ (ends_at R (v.order r) f ≤ low_of R (v.order m) f)
  earlier r in-r a lt = split promise q r m f in-r in_m lt (held.same r m a (omega arith) from to)

  -- two places that agree: one agrees with the middle if the other does
  agrees_with : (p r : ℕ) → compare R (v.order r) (v.order p) (suc f) ≡ Alike → compare R (v.order r) (v.order m) (suc f) ≡ Alike
      → compare R (v.order p) (v.order m) (suc f) ≡ Alike
  agrees_with p r like with-m =
      alike_trans R (suc f) (v.order p) (v.order r) (v.order m) (alike-sym R (suc f) (v.order r) (v.order p) like) with-m

  -- ---- below: what lies from the run on is ruled out
  module _ (below : get_or h f 0 < low_of R (v.order m) f) where
    -- nothing from the run on fits
    none_on : (r : ℕ) → InPart v q r → r < e → fits R h (v.order r) ≡ true → v.from m f ≤ r → ⊥
    none_on r in-r b fit on = go (ltb m r) refl
      where
        x_in : (low_of R (v.order r) f ≤ get_or h f 0) × (get_or h f 0 < ends_at R (v.order r) f)
        x_in = fit_inside r fit

        alike_no : compare R (v.order r) (v.order m) (suc f) ≡ Alike → ⊥
        alike_no like = omega (arith, x_in.0, like_low r like)

        go : (t : Bool) → ltb m r ≡ t → ⊥
        go true p = ⊎_elim alike_no (λ under. omega (arith, x_in.0, some_m)) (later r in-r (ltb-true m r p) b)
        go false p = alike_no (of_run r on (omega (arith, ltb-false m r p, run.to_here)))

    -- nothing from the run on agrees with a place before it
    apart_on : (p r : ℕ) → s ≤ p → p < v.from m f → InPart v q r → compare R (v.order r) (v.order p) (suc f) ≡ Alike → v.from m f ≤ r → ⊥
    apart_on p r a b in-r like on = go (ltb m r) refl
      where
        here : v.from m f ≤ m
        here = run.from_here

        in_p : InPart v q p
        in_p = held_part held p a (omega (arith, here))

        with_m_no : compare R (v.order p) (v.order m) (suc f) ≡ Alike → ⊥
        with_m_no with-m = omega (arith, (in_run_lem p in_p with-m).0)

        go : (t : Bool) → ltb m r ≡ t → ⊥
        go true e' =
            with_m_no
            (between promise q p m r (suc f) in_p in_m in-r (omega (arith, here)) (ltb-true m r e') (alike-sym R (suc f) (v.order r) (v.order p) like)).0
        go false e' = with_m_no (agrees_with p r like (of_run r on (omega (arith, ltb-false m r e', run.to_here))))

    pub held_below : Held R v h q s (v.from m f) f
    held_below =
        let here = run.from_here in
        record {
          part = held.part;
          from_start = held.from_start;
          to_next = omega (arith, held.to_next);
          same = λ p r a b c d. held.same p r a (omega arith) c (omega arith);
          inside = λ p g a b c. held.inside p g a (omega arith) c;
          closed = λ p r a b in-r like.
              ((held.closed p r a (omega arith) in-r like).0, lt_of_not-le (apart_on p r a b in-r like));
          covers = λ r in-r fit.
              let at = held.covers r in-r fit in
              (at.0, lt_of_not-le (none_on r in-r at.1 fit));
        }

  -- ---- above: what lies before the run's end is ruled out
  module _ (above : ends_at R (v.order m) f ≤ get_or h f 0) where
    -- nothing before the run's end fits
    none_up_to : (r : ℕ) → InPart v q r → s ≤ r → fits R h (v.order r) ≡ true → r < v.to m f → ⊥
    none_up_to r in-r a fit up = go (ltb r m) refl
      where
        x_in : (low_of R (v.order r) f ≤ get_or h f 0) × (get_or h f 0 < ends_at R (v.order r) f)
        x_in = fit_inside r fit

        alike_no : compare R (v.order r) (v.order m) (suc f) ≡ Alike → ⊥
        alike_no like = omega (arith, x_in.1, like_ends r like)

        go : (t : Bool) → ltb r m ≡ t → ⊥
        go true p = ⊎_elim alike_no (λ under. omega (arith, x_in.1, some_m)) (earlier r in-r a (ltb-true r m p))
        go false p = alike_no (of_run r (omega (arith, ltb-false r m p, run.from_here)) up)

    -- nothing before the run's end agrees with a place past it
    apart_up_to : (p r : ℕ) → v.to m f ≤ p → p < e → InPart v q r → compare R (v.order r) (v.order p) (suc f) ≡ Alike → r < v.to m f → ⊥
    apart_up_to p r a b in-r like up = go (ltb r m) refl
      where
        there : m < v.to m f
        there = run.to_here

        in_p : InPart v q p
        in_p = held_part held p (omega (arith, there)) b

        with_m_no : compare R (v.order p) (v.order m) (suc f) ≡ Alike → ⊥
        with_m_no with-m = omega (arith, (in_run_lem p in_p with-m).1)

        go : (t : Bool) → ltb r m ≡ t → ⊥
        go true e' =
            with_m_no
            (alike-sym R (suc f) (v.order m) (v.order p) (between promise q r m p (suc f) in-r in_m in_p (ltb-true r m e') (omega (arith, there)) like).1)
        go false e' = with_m_no (agrees_with p r like (of_run r (omega (arith, ltb-false r m e', run.from_here)) up))

    pub held_above : Held R v h q (v.to m f) e f
    held_above =
        let there = run.to_here in
        record {
          part = held.part;
          from_start = omega (arith, held.from_start);
          to_next = held.to_next;
          same = λ p r a b c d. held.same p r (omega arith) b (omega arith) d;
          inside = λ p g a b c. held.inside p g (omega arith) b c;
          closed = λ p r a b in-r like.
              (le_of_suc-le-suc (lt_of_not-le (apart_up_to p r a b in-r like)), (held.closed p r (omega arith) b in-r like).1);
          covers = λ r in-r fit.
              let at = held.covers r in-r fit in
              (le_of_suc-le-suc (lt_of_not-le (none_up_to r in-r at.0 fit)), at.1);
        }

  -- ---- inside: the run alone is left
  module _ (inside : (low_of R (v.order m) f ≤ get_or h f 0) × (get_or h f 0 < ends_at R (v.order m) f)) where
    -- whatever fits agrees with the middle
    fits_with : (r : ℕ) → InPart v q r → s ≤ r → r < e → fits R h (v.order r) ≡ true → compare R (v.order r) (v.order m) (suc f) ≡ Alike
    fits_with r in-r a b fit = go (ltb r m) refl (ltb m r) refl
      where
        x_in : (low_of R (v.order r) f ≤ get_or h f 0) × (get_or h f 0 < ends_at R (v.order r) f)
        x_in = fit_inside r fit

        go : (t : Bool) → ltb r m ≡ t → (u : Bool) → ltb m r ≡ u → compare R (v.order r) (v.order m) (suc f) ≡ Alike
        go true p u p' = ⊎_elim (λ like. like) (λ under. absurd (omega (arith, x_in.1, inside.0))) (earlier r in-r a (ltb-true r m p))
        go false p true p' = ⊎_elim (λ like. like) (λ under. absurd (omega (arith, x_in.0, inside.1))) (later r in-r (ltb-true m r p') b)
        go false p false p' =
            let is : r ≡ m = omega (arith, ltb-false r m p, ltb-false m r p') in
            subst (λ k. compare R (v.order k) (v.order m) (suc f) ≡ Alike) (sym is) (alike_refl R (suc f) (v.order m))

    -- the header's numbers are inside up to this field
    inside_up_to : (p g : ℕ) → v.from m f ≤ p → p < v.to m f → g < f + 1 → inside_at R h (v.order p) g ≡ true
    inside_up_to p g a b lt = go (ltb g f) refl
      where
        tr : Trusted s e m (v.from m f) (v.to m f)
        tr = run_trusted

        like : compare R (v.order p) (v.order m) (suc f) ≡ Alike
        like = of_run p a b

        go : (t : Bool) → ltb g f ≡ t → inside_at R h (v.order p) g ≡ true
        go true e' = held.inside p g (omega (arith, tr.from_start)) (omega (arith, tr.to_end)) (ltb-true g f e')
        go false e' =
            let is : g ≡ f = omega (arith, ltb-false g f e') in
            rw is
            (inside_yes (low_of R (v.order p) f) (ends_at R (v.order p) f) (get_or h f 0) (omega (arith, like_low p like, inside.0))
            (omega (arith, like_ends p like, inside.1)))

    pub held_inside : Held R v h q (v.from m f) (v.to m f) (f + 1)
    held_inside =
        record {
          part = held.part;
          from_start = run.from_start;
          to_next = run.to_next;
          same = λ p r a b c d.
              rw add-one
              (alike_trans R (suc f) (v.order p) (v.order m) (v.order r) (of_run p a b) (alike-sym R (suc f) (v.order r) (v.order m) (of_run r c d)));
          inside = inside_up_to;
          closed = λ p r a b in-r like.
              in_run_lem r in-r
              (alike_trans R (suc f) (v.order r) (v.order p) (v.order m)
              (alike_fewer R (v.order r) (v.order p) (suc f) (suc (f + 1)) (omega arith) like)
              (of_run p a b));
          covers = λ r in-r fit.
              let at = held.covers r in-r fit in
              in_run_lem r in-r (fits_with r in-r at.0 at.1 fit);
        }

-- ---- field d
module _ {R : Rules} {v : View} {h : List ℕ} (promise : Promise R v) {q s e : ℕ} (held : Held R v h q s e (fields_of R)) (some : s < e) where
  -- two places of a partition do not agree in all fields
  not_twins : s + 1 < e → ⊥
  not_twins more =
      let i = v.order s in
      let j = v.order (s + 1) in
      let in-s = held_part held s (omega arith) some in
      let u = before_at R i j (promise.sorted q s (s + 1) in-s (held_part held (s + 1) (omega arith) more) (omega arith)) in
      let low = (alike_fields_lem R i j (fields_of R) (held.same s (s + 1) (omega arith) some (omega arith) more) u.field u.inside).0 in
      omega (arith, low, u.under, promise.sound i u.field (placed_rule promise q s in-s) u.inside)

  -- one place is left
  pub one_left : e ≡ s + 1
  one_left = go (ltb (s + 1) e) refl
    where
      go : (t : Bool) → ltb (s + 1) e ≡ t → e ≡ s + 1
      go true p = absurd (not_twins (ltb-true (s + 1) e p))
      go false p = omega (arith, ltb-false (s + 1) e p)

  -- and its rule fits
  pub last_fits : fits R h (v.order s) ≡ true
  unfolding fits
  last_fits = all_yes (inside_at R h (v.order s)) (fields_of R) (λ g lt. held.inside s g (omega arith) some lt)

  pub last_rule : v.order s < rules_in R
  last_rule = placed_rule promise q s (held_part held s (omega arith) some)
