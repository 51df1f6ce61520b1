-- Loops that test the numbers 0, 1, .. below n with one test, and end at the first that answers otherwise.
-- At the head, `Answered P t n j`: each number below j was tested and answered t. A turn tests j; where it answers t the
-- loop goes on, where not it has its answer; past n every number answered t. r is the answer at j as a callee gave it.
--     answered-none, answered_more      where the loop begins, and after a turn
--     answered-all, answered-not        of t = true: all pass; one does not
--     turn_not, turn_more               of t = true, where the code asks for the answer's no
--     answered-least, answered_end      of t = false: the least that passes; there is none
--     answered_found, answered_nothing  the same, as an answer that says whether there is one (`specs/Found.antt`)
--     found_is, found_none              what such an answer says
--     answered_one, answered_none_of    of t = false: one passes; none does
-- Assumes nothing.
use Prim.Native.Nat.{ℕ, ◌+◌, ◌≤◌, ◌<◌}
use mathlib.Core.Bool.{Bool, true, false, not}
use mathlib.Core.Path.{◌≡◌, refl, sym, ◌∙◌}
use native.Mathlib.Omega.{arith}
use borrow.Author.Count.{below_more}
use lib.Dec.{ltb}
use borrow.Author.Tests.{lt-ltb, le-ltb, ltb-true, ltb-false, not-true, not-false}
use Rattle.std.specs.Prelude.{Some, None}
use Rattle.ranges.specs.Numbers.{pick, all, any, least}
use Rattle.ranges.proofs.Numbers.{never, all_yes, all_no, any_yes, any_no, least_is, least-none}
use Rattle.lists.specs.Found.{found_below}

pub record Answered (P : ℕ → Bool) (t : Bool) (n j : ℕ) : Type 0 where
  pub within : j ≤ n
  pub below : (k : ℕ) → k < j → P k ≡ t

pub answered-none : (P : ℕ → Bool) (t : Bool) (n : ℕ) → Answered P t n 0
answered-none P t n = record { within = omega arith; below = λ k lt. absurd (omega arith) }

pub answered_more : {P : ℕ → Bool} {t : Bool} {n j : ℕ} → Answered P t n j → j < n → {r : Bool} → r ≡ P j → r ≡ t → Answered P t n (j + 1)
answered_more {P} {t} {n} {j} told lt is_r here =
    record { within = omega arith; below = below_more (λ k. P k ≡ t) j told.below (sym is_r ∙ here) }

module _ {P : ℕ → Bool} {n j : ℕ} where
  pub answered-all : Answered P true n j → n ≤ j → true ≡ all n P
  answered-all told past = sym (all_yes P n (λ k lt. told.below k (omega arith)))

  pub answered-not : Answered P true n j → j < n → {r : Bool} → r ≡ P j → r ≡ false → false ≡ all n P
  answered-not told lt is_r fails = sym (all_no P n j lt (sym is_r ∙ fails))

  pub answered-least : Answered P false n j → j < n → {r : Bool} → r ≡ P j → r ≡ true → j ≡ least n P
  answered-least told lt is_r passes = sym (least_is P n j lt (sym is_r ∙ passes) told.below)

  pub answered_end : Answered P false n j → n ≤ j → n ≡ least n P
  answered_end told past = sym (least-none P n (λ k lt. told.below k (omega arith)))

  pub answered_found : Answered P false n j → j < n → {r : Bool} → r ≡ P j → r ≡ true → Some j ≡ found_below n (least n P)
  answered_found told lt is_r passes = rw (← answered-least told lt is_r passes, lt-ltb j n lt)

  pub answered_nothing : Answered P false n j → n ≤ j → None ≡ found_below n (least n P)
  answered_nothing told past = let over : n ≤ n = omega arith in rw (← answered_end told past, le-ltb n n over)

  pub answered_one : Answered P false n j → j < n → {r : Bool} → r ≡ P j → r ≡ true → true ≡ any n P
  answered_one told lt is_r passes = sym (any_yes P n j lt (sym is_r ∙ passes))

  pub answered_none_of : Answered P false n j → n ≤ j → false ≡ any n P
  answered_none_of told past = sym (any_no P n (λ k lt. told.below k (omega arith)))

-- the code asks for the answer's no
module _ {P : ℕ → Bool} {n j : ℕ} (told : Answered P true n j) (lt : j < n) {r : Bool} (is_r : r ≡ P j) where
  pub turn_not : not r ≡ true → false ≡ all n P
  turn_not e = answered-not told lt is_r (not-true r e)

  pub turn_more : not r ≡ false → Answered P true n (j + 1)
  turn_more e = answered_more told lt is_r (not-false r e)

-- what is found below n is the least, which is below n; where nothing is, the least is not
module _ {n k : ℕ} where
  pub found_is : {v : ℕ} → Some v ≡ found_below n k → (v ≡ k) × (v < n)
  found_is {v} e = go (ltb k n) refl e
    where
      go : (t : Bool) → ltb k n ≡ t → Some v ≡ pick t (Some k) None → (v ≡ k) × (v < n)
      go true is_t e = let same : v ≡ k = cc in (same, rw same (ltb-true k n is_t))
      go false is_t e = never (cc)

  pub found_none : None ≡ found_below n k → n ≤ k
  found_none e = go (ltb k n) refl e
    where
      go : (t : Bool) → ltb k n ≡ t → None ≡ pick t (Some k) None → n ≤ k
      go true is_t e = never (cc)
      go false is_t e = ltb-false k n is_t
