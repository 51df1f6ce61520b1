-- 01, Refusal numbers: when a partition is broken for a lookup, in the paper's own conditions and at the step at which each is met; and that a
-- visit (`specs/Lookup.antt`) is broken exactly there.
-- A walk that meets no such condition goes on, and what is left to it falls, so it ends at an empty group or with a candidate. The
-- other way round, a walk that reaches a group has made the steps that lead to it, and is broken there.
--     Reaches                  the walk from one group reaches another
--     BrokenStep, BrokenEnd    the conditions at a step; those at field d
--     BrokenAt, BrokenWalk     a group at which one is met; a walk that reaches such a group
--     BrokenPart               the conditions of a partition
--     walk_broken_iff          a walk is broken exactly where it reaches such a group
--     visit_broken_iff         a partition visited is broken exactly where one of its conditions is met
-- Assumes nothing.
use Prim.Native.Nat.{ℕ, zero, suc, ◌+◌, ◌-◌, ◌≤◌, ◌<◌}
use mathlib.Core.Bool.{Bool, true, false}
use mathlib.Core.List.{List}
use mathlib.Core.Logic.{◌↔◌}
use mathlib.Core.Path.{◌≡◌, refl, sym, ◌∙◌}
use native.Mathlib.Omega.{arith}
use lib.Dec.{ltb, leb, eqb}
use borrow.Author.Tests.{ltb-true, ltb-false, leb-true, leb-false, eqb-false}
use Rattle.std.specs.Prelude.{Option, Some, Ok, Err}
use Rattle.ranges.specs.Numbers.{pick, ◌and◌}
use Rattle.ranges.specs.declared.side.Side.{Side}
use Rattle.ranges.specs.declared.side.Side.TheVariants.{Below, Above, Inside}
use Rattle.ranges.proofs.Numbers.{never, true-not-false}
use Rattle.lists.specs.Rules.{Rules, fields_of, rules_in}
use Rattle.lists.specs.FirstMatch.{side_at, fits}
use Rattle.tables.specs.Layout.{View}
use Rattle.lookup.specs.Walk.{Walked, Stepped, ran, broken_walk, on, broken_step, mid_of, run_stands, leaves, step_at, step_of, arrived_of, walk_from}
use Rattle.lookup.specs.Lookup.{visit_of}
use Rattle.lookup.proofs.Steps.{Trusted, trusted_stands, Tested, tested, tested_fault, test, step-smaller}
use Rattle.lookup.proofs.Arrivals.{Arrived, arrived}
use Rattle.lookup.proofs.Walks.{Turn, empties, ends, breaks, goes_on, turn, walk_empty, walk_arrives, walk_breaks, walk_on}
use Rattle.lookup.proofs.Visits.{visit_none, visit_past, visit_walks}

-- ---- the conditions
-- the walk on places s to before e at field f reaches places s' to before e' at field f': at once, or after a test that leaves what reaches them
pub data Reaches (R : Rules) (v : View) (h : List ℕ) : ℕ → ℕ → ℕ → ℕ → ℕ → ℕ → Type 0 where
  at_once : (s e f : ℕ) → Reaches R v h s e f s e f
  by_test : (s e f s₁ e₁ f₁ s' e' f' : ℕ) → s < e → f < fields_of R → step_of R v h s e f ≡ on s₁ e₁ f₁
      → Reaches R v h s₁ e₁ f₁ s' e' f' → Reaches R v h s e f s' e' f'

-- "at a step: the rule number at mid is n or more, or group start ≤ run-from ≤ mid < run-to ≤ group end fails"
pub data BrokenStep (R : Rules) (v : View) (s e f m : ℕ) : Type 0 where
  no_such_rule : rules_in R ≤ v.order m → BrokenStep R v s e f m
  run_astray : (Trusted s e m (v.from m f) (v.to m f) → ⊥) → BrokenStep R v s e f m

-- "at field d: the group is not one place, its rule number is n or more, or the confirming comparison fails"
pub data BrokenEnd (R : Rules) (v : View) (h : List ℕ) (s e : ℕ) : Type 0 where
  not_one_place : (e ≡ s + 1 → ⊥) → BrokenEnd R v h s e
  no_such_candidate : rules_in R ≤ v.order s → BrokenEnd R v h s e
  not_confirmed : fits R h (v.order s) ≡ false → BrokenEnd R v h s e

-- a group that is not empty, at a field before d or at field d
pub data BrokenAt (R : Rules) (v : View) (h : List ℕ) (s e f : ℕ) : Type 0 where
  at_a_step : s < e → f < fields_of R → BrokenStep R v s e f (mid_of s e) → BrokenAt R v h s e f
  at_field_d : s < e → f ≡ fields_of R → BrokenEnd R v h s e → BrokenAt R v h s e f

-- the walk on places s₀ to before e₀ at field f₀ reaches a group that is broken
pub record BrokenWalk (R : Rules) (v : View) (h : List ℕ) (s₀ e₀ f₀ : ℕ) : Type 0 where
  pub s : ℕ
  pub e : ℕ
  pub f : ℕ
  pub reached : Reaches R v h s₀ e₀ f₀ s e f
  pub broken : BrokenAt R v h s e f

-- "for a partition: start ≥ next start, or next start > n; for a lookup also .."
pub data BrokenPart (R : Rules) (v : View) (h : List ℕ) (q : ℕ) : Type 0 where
  no_place : v.start (suc q) ≤ v.start q → BrokenPart R v h q
  past_n : rules_in R < v.start (suc q) → BrokenPart R v h q
  in_walk : BrokenWalk R v h (v.start q) (v.start (suc q)) 0 → BrokenPart R v h q

-- ---- one test
module _ (R : Rules) (v : View) (h : List ℕ) (s e f m : ℕ) where
  -- a test that is made leaves something
  goes_somewhere : (x : Side) (a b : ℕ) → leaves x s e f a b ≡ broken_step → ⊥
  goes_somewhere Below a b is = never (cc)
  goes_somewhere Above a b is = never (cc)
  goes_somewhere Inside a b is = never (cc)

  -- a broken step met a condition, and where one is met the step is broken
  step_met : step_at R v h s e f m ≡ broken_step → BrokenStep R v s e f m
  unfolding step_at
  step_met = go (ltb (v.order m) (rules_in R)) (run_stands s e m (v.from m f) (v.to m f)) refl refl
    where
      go : (p q : Bool) → ltb (v.order m) (rules_in R) ≡ p → run_stands s e m (v.from m f) (v.to m f) ≡ q
          → pick (p and q) (leaves (side_at R h (v.order m) f) s e f (v.from m f) (v.to m f)) broken_step ≡ broken_step → BrokenStep R v s e f m
      go false q is_p is_q is = no_such_rule (ltb-false (v.order m) (rules_in R) is_p)
      go true false is_p is_q is = run_astray (λ t. true-not-false (trusted_stands t) is_q)
      go true true is_p is_q is = absurd (goes_somewhere (side_at R h (v.order m) f) (v.from m f) (v.to m f) is)

  step_breaks : BrokenStep R v s e f m → step_at R v h s e f m ≡ broken_step
  step_breaks broken = go broken (test R v h s e f m)
    where
      go : {x : Stepped} → BrokenStep R v s e f m → Tested R v h s e f m x → x ≡ broken_step
      go broken tested_fault = refl
      go (no_such_rule le) (tested x rule run outcome) = absurd (omega arith)
      go (run_astray not_so) (tested x rule run outcome) = absurd (not_so run)

-- ---- the end at field d
module _ (R : Rules) (v : View) (h : List ℕ) (s e t : ℕ) where
  -- the same of the end
  end_met : arrived_of R v h s e t ≡ broken_walk → BrokenEnd R v h s e
  unfolding arrived_of
  end_met = go (eqb e (s + 1)) (ltb (v.order s) (rules_in R)) (fits R h (v.order s)) refl refl refl
    where
      go : (o p q : Bool) → eqb e (s + 1) ≡ o → ltb (v.order s) (rules_in R) ≡ p → fits R h (v.order s) ≡ q
          → pick (o and p and q) (ran (Some (v.order s)) t) broken_walk ≡ broken_walk → BrokenEnd R v h s e
      go false p q is-o is_p is_q is = not_one_place (eqb-false e (s + 1) is-o)
      go true false q is-o is_p is_q is = no_such_candidate (ltb-false (v.order s) (rules_in R) is_p)
      go true true false is-o is_p is_q is = not_confirmed is_q
      go true true true is-o is_p is_q is = never (cc)

  end_breaks : BrokenEnd R v h s e → arrived_of R v h s e t ≡ broken_walk
  end_breaks broken = go (arrived_of R v h s e t) refl
    where
      against : {x : Option ℕ} {u : ℕ} → BrokenEnd R v h s e → Arrived R v h s e t x u → ⊥
      against (not_one_place many) a = many a.one
      against (no_such_candidate le) a = omega (arith, a.rule)
      against (not_confirmed unfit) a = true-not-false a.fit unfit

      go : (w : Walked) → arrived_of R v h s e t ≡ w → w ≡ broken_walk
      go (Err x) is = refl
      go (Ok x) is = absurd (against broken (arrived R v h s e t x.found x.tests is))

-- ---- a walk
module _ (R : Rules) (v : View) (h : List ℕ) where
  -- one test more
  walk_longer : {s e f : ℕ} (s₁ e₁ f₁ : ℕ) → s < e → f < fields_of R → step_of R v h s e f ≡ on s₁ e₁ f₁ → BrokenWalk R v h s₁ e₁ f₁ → BrokenWalk R v h s e f
  walk_longer {s} {e} {f} s₁ e₁ f₁ some in_row is w =
      record {
        s = w.s;
        e = w.e;
        f = w.f;
        reached = by_test s e f s₁ e₁ f₁ w.s w.e w.f some in_row is w.reached;
        broken = w.broken;
      }

  -- where tests are enough, a broken walk met a condition
  walk_met : (k s e f t : ℕ) → (e - s) + (fields_of R - f) < k → f ≤ fields_of R → walk_from R v h k s e f t ≡ broken_walk → BrokenWalk R v h s e f
  walk_met zero s e f t enough upto is = absurd (omega arith)
  walk_met (suc k) s e f t enough upto is = go (turn R v h s e f) (walk_met k)
    where
      go : Turn R v h s e f
          → ((s e f t : ℕ) → (e - s) + (fields_of R - f) < k → f ≤ fields_of R → walk_from R v h k s e f t ≡ broken_walk → BrokenWalk R v h s e f)
          → BrokenWalk R v h s e f
      go (empties none) rest = let miss = sym (walk_empty R v h k s e f t none) ∙ is in never (cc)
      go (ends some at-end) rest =
          let broken = end_met R v h s e t (sym (walk_arrives R v h k s e f t some at-end) ∙ is) in
          record { s = s; e = e; f = f; reached = at_once s e f; broken = at_field_d some (omega arith) broken }
      go (breaks some in_row step) rest =
          record { s = s; e = e; f = f; reached = at_once s e f; broken = at_a_step some in_row (step_met R v h s e f (mid_of s e) step) }
      go (goes_on some in_row s₁ e₁ f₁ step) rest =
          let less = step-smaller R v h (fields_of R) s e f s₁ e₁ f₁ some in_row step in
          walk_longer s₁ e₁ f₁ some in_row step
          (rest s₁ e₁ f₁ (t + 1) (omega (arith, less.falls)) less.field (sym (walk_on R v h k s e f t some in_row s₁ e₁ f₁ step) ∙ is))

  -- a walk is broken at a group that is
  here_breaks : (k s e f t : ℕ) → BrokenAt R v h s e f → walk_from R v h (suc k) s e f t ≡ broken_walk
  here_breaks k s e f t (at_a_step some in_row broken) = walk_breaks R v h k s e f t some in_row (step_breaks R v h s e f (mid_of s e) broken)
  here_breaks k s e f t (at_field_d some at-d broken) = walk_arrives R v h k s e f t some (omega arith) ∙ end_breaks R v h s e t broken

  -- and at every group from which it reaches one
  reached_breaks : (k t : ℕ) {s e f s' e' f' : ℕ} → (e - s) + (fields_of R - f) < k → Reaches R v h s e f s' e' f' → BrokenAt R v h s' e' f'
      → walk_from R v h k s e f t ≡ broken_walk
  reached_breaks zero t enough reached broken = absurd (omega arith)
  reached_breaks (suc k) t enough (at_once s e f) broken = here_breaks k s e f t broken
  reached_breaks (suc k) t enough (by_test s e f s₁ e₁ f₁ s' e' f' some in_row is rest) broken =
      let less = step-smaller R v h (fields_of R) s e f s₁ e₁ f₁ some in_row is in
      walk_on R v h k s e f t some in_row s₁ e₁ f₁ is ∙ reached_breaks k (t + 1) (omega (arith, less.falls)) rest broken

  pub walk_broken_iff : (k s e f t : ℕ) → (e - s) + (fields_of R - f) < k → f ≤ fields_of R → (walk_from R v h k s e f t ≡ broken_walk) ↔ BrokenWalk R v h s e f
  walk_broken_iff k s e f t enough upto = (walk_met k s e f t enough upto, λ w. reached_breaks k t enough w.reached w.broken)

-- ---- a partition visited
pub visit_broken_iff : (R : Rules) (v : View) (h : List ℕ) (q : ℕ) → (visit_of R v h q ≡ broken_walk) ↔ BrokenPart R v h q
visit_broken_iff R v h q = go (ltb (v.start q) (v.start (suc q))) refl (leb (v.start (suc q)) (rules_in R)) refl
  where
    go : (p : Bool) → ltb (v.start q) (v.start (suc q)) ≡ p → (r : Bool) → leb (v.start (suc q)) (rules_in R) ≡ r → (visit_of R v h q ≡ broken_walk) ↔ BrokenPart R v h q
    go false is_p r is_r = let none = ltb-false (v.start q) (v.start (suc q)) is_p in (λ is. no_place none, λ broken. visit_none R v h q none)
    go true is_p false is_r =
        let some = ltb-true (v.start q) (v.start (suc q)) is_p in
        let past = leb-false (v.start (suc q)) (rules_in R) is_r in
        (λ is. past_n past, λ broken. visit_past R v h q some past)
    go true is_p true is_r =
        let some = ltb-true (v.start q) (v.start (suc q)) is_p in
        let within = leb-true (v.start (suc q)) (rules_in R) is_r in
        let walks = visit_walks R v h q some within in
        let k = suc (rules_in R + fields_of R) in
        let iff = walk_broken_iff R v h k (v.start q) (v.start (suc q)) 0 0 (omega arith) (omega arith) in
        (λ is. in_walk (iff.0 (sym walks ∙ is)), met some within (λ w. walks ∙ iff.1 w))
      where
        met : v.start q < v.start (suc q) → v.start (suc q) ≤ rules_in R → (BrokenWalk R v h (v.start q) (v.start (suc q)) 0 → visit_of R v h q ≡ broken_walk)
            → BrokenPart R v h q → visit_of R v h q ≡ broken_walk
        met some within by_walk (no_place none) = absurd (omega arith)
        met some within by_walk (past_n past) = absurd (omega arith)
        met some within by_walk (in_walk w) = by_walk w
