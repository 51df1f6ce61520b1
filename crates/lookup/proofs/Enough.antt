-- How many tests a walk may make does not alter its answer, once they are enough: more than group size plus remaining fields. That number
-- falls at each test (`Steps.antt`), so the walk ends before its last permitted test, and its definition's end for want of tests is
-- never met: a walk that is broken is broken by the table.
--     enough_one      any two numbers of tests that are enough give the same walk
-- Assumes nothing.
use Prim.Native.Nat.{ℕ, zero, suc, ◌+◌, ◌-◌, ◌<◌}
use mathlib.Core.List.{List}
use mathlib.Core.Path.{◌≡◌, sym, ◌∙◌}
use native.Mathlib.Omega.{arith}
use Rattle.lists.specs.Rules.{Rules, fields_of}
use Rattle.tables.specs.Layout.{View}
use Rattle.lookup.specs.Walk.{walk_from}
use Rattle.lookup.proofs.Steps.{step-smaller}
use Rattle.lookup.proofs.Walks.{Turn, empties, ends, breaks, goes_on, turn, walk_empty, walk_arrives, walk_breaks, walk_on}

module _ (R : Rules) (v : View) (h : List ℕ) where
  -- j and k are each enough for places s to before e at field f
  pub enough_one : (j k s e f t : ℕ) → (e - s) + (fields_of R - f) < j → (e - s) + (fields_of R - f) < k → walk_from R v h j s e f t ≡ walk_from R v h k s e f t
  enough_one zero k s e f t j-enough k-enough = absurd (omega arith)
  enough_one (suc j) zero s e f t j-enough k-enough = absurd (omega arith)
  enough_one (suc j) (suc k) s e f t j-enough k-enough = go (turn R v h s e f) (enough_one j k)
    where
      go : Turn R v h s e f
          → ((s e f t : ℕ) → (e - s) + (fields_of R - f) < j → (e - s) + (fields_of R - f) < k → walk_from R v h j s e f t ≡ walk_from R v h k s e f t)
          → walk_from R v h (suc j) s e f t ≡ walk_from R v h (suc k) s e f t
      go (empties none) rest = walk_empty R v h j s e f t none ∙ sym (walk_empty R v h k s e f t none)
      go (ends some at-end) rest = walk_arrives R v h j s e f t some at-end ∙ sym (walk_arrives R v h k s e f t some at-end)
      go (breaks some in_row is) rest = walk_breaks R v h j s e f t some in_row is ∙ sym (walk_breaks R v h k s e f t some in_row is)
      go (goes_on some in_row s' e' f' is) rest =
          let less = (step-smaller R v h (fields_of R) s e f s' e' f' some in_row is).falls in
          walk_on R v h j s e f t some in_row s' e' f' is
          ∙ rest s' e' f' (t + 1) (omega arith) (omega arith)
          ∙ sym (walk_on R v h k s e f t some in_row s' e' f' is)
