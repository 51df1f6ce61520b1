-- Laws of the walk (`specs/Walk.antt`): its four turns, each from the tests that lead to it. k is one less than the tests that it
-- may still make.
--     walk_empty, walk_arrives, walk_breaks, walk_on      an empty group, field d, a broken step, a step
--     Turn, turn                                          which of them it is
--     every_empty, every_arrives, every_breaks, every_on  the same for every k that is enough
--     walk_holds                                          what each turn keeps holds of every walk
-- Assumes nothing.
use Prim.Native.Nat.{ℕ, zero, suc, ◌+◌, ◌≤◌, ◌<◌}
use mathlib.Core.Bool.{Bool, true, false}
use mathlib.Core.List.{List}
use mathlib.Core.Path.{◌≡◌, refl, sym, ap, ◌∙◌, subst}
use native.Mathlib.Omega.{arith}
use lib.Dec.{leb}
use borrow.Author.Tests.{le-leb, lt-leb, leb-true, leb-false}
use Rattle.std.specs.Prelude.{None, Ok, Err}
use Rattle.lists.specs.Rules.{Rules, fields_of}
use Rattle.tables.specs.Layout.{View}
use Rattle.lookup.specs.Walk.{Walked, Stepped, ran, broken_walk, on, broken_step, step_of, arrived_of, walk_from}
use Rattle.lookup.specs.Packed.{packed}

module _ (R : Rules) (v : View) (h : List ℕ) (k s e f t : ℕ) where
  pub walk_empty : e ≤ s → walk_from R v h (suc k) s e f t ≡ ran None t
  unfolding walk_from
  walk_empty none = rw (le-leb e s none)

  pub walk_arrives : s < e → fields_of R ≤ f → walk_from R v h (suc k) s e f t ≡ arrived_of R v h s e t
  unfolding walk_from
  walk_arrives some at-end = rw (lt-leb e s some, le-leb (fields_of R) f at-end)

  module _ (some : s < e) (in_row : f < fields_of R) where
    pub walk_breaks : step_of R v h s e f ≡ broken_step → walk_from R v h (suc k) s e f t ≡ broken_walk
    unfolding walk_from
    walk_breaks is = rw (lt-leb e s some, lt-leb (fields_of R) f in_row, is)

    pub walk_on : (s' e' f' : ℕ) → step_of R v h s e f ≡ on s' e' f' → walk_from R v h (suc k) s e f t ≡ walk_from R v h k s' e' f' (t + 1)
    unfolding walk_from
    walk_on s' e' f' is = rw (lt-leb e s some, lt-leb (fields_of R) f in_row, is)

-- which turn it is, on places s to before e at field f, with the facts that lead to it
pub data Turn (R : Rules) (v : View) (h : List ℕ) (s e f : ℕ) : Type 0 where
  empties : e ≤ s → Turn R v h s e f
  ends : s < e → fields_of R ≤ f → Turn R v h s e f
  breaks : s < e → f < fields_of R → step_of R v h s e f ≡ broken_step → Turn R v h s e f
  goes_on : s < e → f < fields_of R → (s' e' f' : ℕ) → step_of R v h s e f ≡ on s' e' f' → Turn R v h s e f

pub turn : (R : Rules) (v : View) (h : List ℕ) (s e f : ℕ) → Turn R v h s e f
turn R v h s e f = go (leb e s) refl (leb (fields_of R) f) refl (step_of R v h s e f) refl
  where
    go : (p : Bool) → leb e s ≡ p → (q : Bool) → leb (fields_of R) f ≡ q → (x : Stepped) → step_of R v h s e f ≡ x → Turn R v h s e f
    go true is_p q is_q x is_x = empties (leb-true e s is_p)
    go false is_p true is_q x is_x = ends (leb-false e s is_p) (leb-true (fields_of R) f is_q)
    go false is_p false is_q (Err b) is_x = breaks (leb-false e s is_p) (leb-false (fields_of R) f is_q) is_x
    go false is_p false is_q (Ok y) is_x = goes_on (leb-false e s is_p) (leb-false (fields_of R) f is_q) y.s y.e y.f is_x

-- the same for every number of tests that is enough, as the code's contract has it: more than m, group size plus remaining fields
module _ (R : Rules) (v : View) (h : List ℕ) (s e f t m c : ℕ) where
  -- c is what the walk answers, as one number
  abbrev Answers : Type 0
  Answers = (k : ℕ) → m < k → c ≡ packed (walk_from R v h k s e f t)

  pub every_empty : e ≤ s → c ≡ packed (ran None t) → Answers
  every_empty none is zero lt = absurd (omega arith)
  every_empty none is (suc k) lt = is ∙ ap packed (sym (walk_empty R v h k s e f t none))

  -- w is what a callee told of the end
  pub every_arrives : s < e → fields_of R ≤ f → (w : Walked) → w ≡ arrived_of R v h s e t → c ≡ packed w → Answers
  every_arrives some at-end w is-w is zero lt = absurd (omega arith)
  every_arrives some at-end w is-w is (suc k) lt = is ∙ ap packed (is-w ∙ sym (walk_arrives R v h k s e f t some at-end))

  module _ (some : s < e) (in_row : f < fields_of R) where
    -- x is what a callee told of the step
    pub every_breaks : (x : Stepped) → x ≡ step_of R v h s e f → x ≡ broken_step → c ≡ packed broken_walk → Answers
    every_breaks x is_x step is zero lt = absurd (omega arith)
    every_breaks x is_x step is (suc k) lt = is ∙ ap packed (sym (walk_breaks R v h k s e f t some in_row (sym is_x ∙ step)))

    pub every_on : (x : Stepped) (s' e' f' m' : ℕ) → x ≡ step_of R v h s e f → x ≡ on s' e' f' → m' < m
        → ((k : ℕ) → m' < k → c ≡ packed (walk_from R v h k s' e' f' (t + 1))) → Answers
    every_on x s' e' f' m' is_x step falls rest zero lt = absurd (omega arith)
    every_on x s' e' f' m' is_x step falls rest (suc k) lt =
        rest k (omega arith) ∙ ap packed (sym (walk_on R v h k s e f t some in_row s' e' f' (sym is_x ∙ step)))

-- ---- what holds of every walk
-- P says something of a walk's places s to before e, field f and tests t, and of what it answers
module _ (R : Rules) (v : View) (h : List ℕ) (P : ℕ → ℕ → ℕ → ℕ → Walked → Type 0)
    (broken : (s e f t : ℕ) → P s e f t broken_walk)
    (empty : (s e f t : ℕ) → e ≤ s → P s e f t (ran None t))
    (arrives : (s e f t : ℕ) → s < e → fields_of R ≤ f → P s e f t (arrived_of R v h s e t))
    (goes : (s e f t : ℕ) → s < e → f < fields_of R → (s' e' f' : ℕ) → step_of R v h s e f ≡ on s' e' f' → (w : Walked) → P s' e' f' (t + 1) w → P s e f t w)
  where
    pub walk_holds : (k s e f t : ℕ) → P s e f t (walk_from R v h k s e f t)
    unfolding walk_from
    walk_holds zero s e f t = broken s e f t
    walk_holds (suc k) s e f t = go (turn R v h s e f) (walk_holds k)
      where
        go : Turn R v h s e f → ((s' e' f' t' : ℕ) → P s' e' f' t' (walk_from R v h k s' e' f' t')) → P s e f t (walk_from R v h (suc k) s e f t)
        go (empties none) rest = subst (P s e f t) (sym (walk_empty R v h k s e f t none)) (empty s e f t none)
        go (ends some at-end) rest = subst (P s e f t) (sym (walk_arrives R v h k s e f t some at-end)) (arrives s e f t some at-end)
        go (breaks some in_row is) rest = subst (P s e f t) (sym (walk_breaks R v h k s e f t some in_row is)) (broken s e f t)
        go (goes_on some in_row s' e' f' is) rest =
            subst (P s e f t) (sym (walk_on R v h k s e f t some in_row s' e' f' is))
            (goes s e f t some in_row s' e' f' is (walk_from R v h k s' e' f' (t + 1)) (rest s' e' f' (t + 1)))
