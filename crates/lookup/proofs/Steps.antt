-- Laws of one test (`specs/Walk.antt`): what it leaves, as the code works it out. The rule number i and the run from a to
-- before b are what was read at the middle place m.
--     on_one                                                     two steps that go on alike
--     run_before_group, run_past_mid, run_short, run_to_end      the tests of a run in their order
--     step_beyond, step_astray, step_by                          no such rule; a run that may not be trusted; the test itself
--     Trusted, trusted, trusted_stands                           a run that may be trusted, either way round
--     Tested, test                                               the outcomes, with the facts that lead to each
--     Smaller, step-smaller, told_smaller                        what is left is smaller
-- Assumes nothing.
use Prim.Native.Nat.{ℕ, ◌+◌, ◌-◌, ◌≤◌, ◌<◌}
use mathlib.Core.Bool.{Bool, true, false}
use mathlib.Core.List.{List}
use mathlib.Core.Path.{◌≡◌, refl, sym, ap, ◌∙◌}
use native.Mathlib.Omega.{arith}
use lib.Dec.{ltb, leb}
use borrow.Author.Tests.{lt-ltb, le-ltb, le-leb, lt-leb, ltb-true, leb-true}
use Rattle.ranges.specs.Numbers.{pick, ◌and◌}
use Rattle.ranges.specs.declared.side.Side.{Side}
use Rattle.ranges.specs.declared.side.Side.TheVariants.{Below, Above, Inside}
use Rattle.ranges.proofs.Numbers.{never, and_left, and_right}
use Rattle.lists.specs.Rules.{Rules, rules_in}
use Rattle.lists.specs.FirstMatch.{side_at}
use Rattle.tables.specs.Layout.{View}
use Rattle.lookup.specs.declared.walk.Step.{Step}
use Rattle.lookup.specs.Walk.{Stepped, on, broken_step, mid_of, run_stands, leaves, step_at, step_of}

-- two steps that go on alike leave the same
pub on_one : {s e f s' e' f' : ℕ} → on s e f ≡ on s' e' f' → (s ≡ s') × (e ≡ e') × (f ≡ f')
on_one {s} {e} {f} {s'} {e'} {f'} is =
    let same : ◌≡◌ {A = Step} record { s = s; e = e; f = f } record { s = s'; e = e'; f = f' } = cc in
    (ap (λ x. x.s) same, ap (λ x. x.e) same, ap (λ x. x.f) same)

-- ---- a run, held against the group and its middle
module _ (s e m a b : ℕ) where
  pub run_before_group : a < s → run_stands s e m a b ≡ false
  unfolding run_stands
  run_before_group lt = rw (lt-leb s a lt)

  pub run_past_mid : s ≤ a → m < a → run_stands s e m a b ≡ false
  unfolding run_stands
  run_past_mid from lt = rw (le-leb s a from, lt-leb a m lt)

  pub run_short : s ≤ a → a ≤ m → b ≤ m → run_stands s e m a b ≡ false
  unfolding run_stands
  run_short from at le = rw (le-leb s a from, le-leb a m at, le-ltb m b le)

  pub run_to_end : s ≤ a → a ≤ m → m < b → run_stands s e m a b ≡ leb b e
  unfolding run_stands
  run_to_end from at to = rw (le-leb s a from, le-leb a m at, lt-ltb m b to)

-- ---- one test
module _ (R : Rules) (v : View) (h : List ℕ) (s e f m n i : ℕ) (is_n : n ≡ rules_in R) (is_i : i ≡ v.order m) where
  -- the rule number at the middle is n or more
  pub step_beyond : n ≤ i → step_at R v h s e f m ≡ broken_step
  unfolding step_at
  step_beyond le =
      let over : rules_in R ≤ v.order m = omega arith in
      rw (le-ltb (v.order m) (rules_in R) over)

  module _ (a b : ℕ) (is-a : a ≡ v.from m f) (is_b : b ≡ v.to m f) (rule : i < n) where
    -- its run may not be trusted
    pub step_astray : (t : Bool) → t ≡ run_stands s e m a b → t ≡ false → step_at R v h s e f m ≡ broken_step
    unfolding step_at
    step_astray t is-t astray =
        let under : v.order m < rules_in R = omega arith in
        rw (lt-ltb (v.order m) (rules_in R) under, ← is-a, ← is_b, ← is-t, astray)

    -- the test itself
    pub step_by : (x : Side) → run_stands s e m a b ≡ true → x ≡ side_at R h i f → step_at R v h s e f m ≡ leaves x s e f a b
    unfolding step_at
    step_by x fine is_x =
        let under : v.order m < rules_in R = omega arith in
        rw (lt-ltb (v.order m) (rules_in R) under, ← is-a, ← is_b, fine, ← is_i, ← is_x)

-- ---- what a test says
-- a run that may be trusted
pub record Trusted (s e m a b : ℕ) : Type 0 where
  pub from_start : s ≤ a
  pub from_here : a ≤ m
  pub to_here : m < b
  pub to_end : b ≤ e

pub trusted : (s e m a b : ℕ) → run_stands s e m a b ≡ true → Trusted s e m a b
unfolding run_stands
trusted s e m a b fine =
    let at_here = and_right (leb s a) (leb a m and ltb m b and leb b e) fine in
    let at-to = and_right (leb a m) (ltb m b and leb b e) at_here in
    record {
      from_start = leb-true s a (and_left (leb s a) (leb a m and ltb m b and leb b e) fine);
      from_here = leb-true a m (and_left (leb a m) (ltb m b and leb b e) at_here);
      to_here = ltb-true m b (and_left (ltb m b) (leb b e) at-to);
      to_end = leb-true b e (and_right (ltb m b) (leb b e) at-to);
    }

pub trusted_stands : {s e m a b : ℕ} → Trusted s e m a b → run_stands s e m a b ≡ true
trusted_stands {s} {e} {m} {a} {b} t = run_to_end s e m a b t.from_start t.from_here t.to_here ∙ le-leb b e t.to_end

-- the outcomes of the test at place m, with the facts that lead to each
pub data Tested (R : Rules) (v : View) (h : List ℕ) (s e f m : ℕ) : Stepped → Type 0 where
  tested_fault : Tested R v h s e f m broken_step
  tested : (x : Side) → v.order m < rules_in R → Trusted s e m (v.from m f) (v.to m f) → side_at R h (v.order m) f ≡ x
      → Tested R v h s e f m (leaves x s e f (v.from m f) (v.to m f))

pub test : (R : Rules) (v : View) (h : List ℕ) (s e f m : ℕ) → Tested R v h s e f m (step_at R v h s e f m)
unfolding step_at
test R v h s e f m = go (ltb (v.order m) (rules_in R)) (run_stands s e m (v.from m f) (v.to m f)) refl refl
  where
    go : (p q : Bool) → ltb (v.order m) (rules_in R) ≡ p → run_stands s e m (v.from m f) (v.to m f) ≡ q
        → Tested R v h s e f m (pick (p and q) (leaves (side_at R h (v.order m) f) s e f (v.from m f) (v.to m f)) broken_step)
    go false q is_p is_q = tested_fault
    go true false is_p is_q = tested_fault
    go true true is_p is_q =
        tested (side_at R h (v.order m) f) (ltb-true (v.order m) (rules_in R) is_p) (trusted s e m (v.from m f) (v.to m f) is_q) refl

-- ---- what a test leaves is smaller
pub record Smaller (d s e f s' e' f' : ℕ) : Type 0 where
  pub starts : s ≤ s'
  pub ends : e' ≤ e
  pub field : f' ≤ d
  pub falls : (e' - s') + (d - f') < (e - s) + (d - f)

module _ (d s e f : ℕ) (some : s < e) (in_row : f < d) where
  left_smaller : (x : Side) {a b s' e' f' : ℕ} → Trusted s e (mid_of s e) a b → leaves x s e f a b ≡ on s' e' f' → Smaller d s e f s' e' f'
  left_smaller Below t is = let same = on_one is in omega arith
  left_smaller Above t is = let same = on_one is in omega arith
  left_smaller Inside t is = let same = on_one is in omega arith

  smaller : {R : Rules} {v : View} {h : List ℕ} {y : Stepped} {s' e' f' : ℕ} → Tested R v h s e f (mid_of s e) y → y ≡ on s' e' f' → Smaller d s e f s' e' f'
  smaller tested_fault is = never (cc)
  smaller (tested x rule t outcome) is = left_smaller x t is

pub step-smaller : (R : Rules) (v : View) (h : List ℕ) (d s e f s' e' f' : ℕ) → s < e → f < d → step_of R v h s e f ≡ on s' e' f' → Smaller d s e f s' e' f'
step-smaller R v h d s e f s' e' f' some in_row is = smaller d s e f some in_row (test R v h s e f (mid_of s e)) is

-- where a callee told what the step is
pub told_smaller : (R : Rules) (v : View) (h : List ℕ) (x : Stepped) (d s e f s' e' f' : ℕ) → s < e → f < d → x ≡ step_of R v h s e f → x ≡ on s' e' f' → Smaller d s e f s' e' f'
told_smaller R v h x d s e f s' e' f' some in_row is_x is = step-smaller R v h d s e f s' e' f' some in_row (sym is_x ∙ is)
