-- Laws of refusals in a row (`specs/Refusals.antt`, `or_else`), of which the first is given, and of what is answered where none is.
--     or_err, err_fails, err_kept; or_ok, ok_written   a row whose first refuses, and one whose first does not, as a callee answered
--     not-none, by_number                  what refuses is not none; what has the number 0 is none
--     else_none, else_iff, else_first      neither refuses; a refusal that is not the first one's; one that is
--     test_none, test_iff                  a refusal that is given where a test fails
--     counted_iff, counted, not_counted    what is counted is answered exactly where nothing is refused
--     written, not_written, kept           what is lent is written where nothing is refused, and else stays
-- Assumes nothing.
use Prim.Native.Nat.{ℕ}
use mathlib.Core.Bool.{Bool, true, false}
use mathlib.Core.List.{List}
use mathlib.Core.Logic.{◌↔◌}
use mathlib.Core.Path.{◌≡◌, refl, sym, ap, ◌∙◌}
use Rattle.std.specs.Prelude.{Result, Ok, Err}
use Rattle.ranges.specs.Numbers.{pick}
use Rattle.ranges.specs.Refusals.{Refusal, Fault, none, or_else, stands, unless, number_in}
use Rattle.ranges.proofs.Numbers.{never}
use Rattle.ranges.proofs.Answers.{number_some}

-- ---- as a callee answered
pub not-none : {A : Type 0} {a : A} {x : Refusal} → Err x ≡ Ok a → ⊥
not-none e = never (cc)

module _ {x : Refusal} {fault : Fault} (is : Err x ≡ fault) where
  pub or_err : {A : Type 0} (y : Result A Refusal) → Err x ≡ or_else fault y
  or_err y = rw (← is)

  pub err_fails : fault ≡ none → ⊥
  err_fails e = not-none (is ∙ e)

  -- new is what would be written over old
  pub err_kept : (new old : List ℕ) → old ≡ pick (stands fault) new old
  err_kept new old = rw (← is)

module _ {fault : Fault} (is : none ≡ fault) where
  pub or_ok : {A : Type 0} (y : Result A Refusal) → y ≡ or_else fault y
  or_ok y = rw (← is)

  pub ok_written : (new old : List ℕ) → new ≡ pick (stands fault) new old
  ok_written new old = rw (← is)

-- ---- two in a row
pub by_number : (x : Fault) → number_in x ≡ 0 → x ≡ none
by_number (Ok u) e = refl
by_number (Err x) e = absurd (number_some x.cause e)

pub else_none : {A : Type 0} {a : A} (x : Fault) (y : Result A Refusal) → (or_else x y ≡ Ok a) ↔ ((x ≡ none) × (y ≡ Ok a))
else_none (Ok u) y = (λ e. (refl, e), λ h. h.1)
else_none (Err x) y = (λ e. absurd (not-none e), λ h. absurd (not-none h.0))

pub else_iff : {A : Type 0} (x : Fault) (y : Result A Refusal) (z : Refusal) → (x ≡ Err z → ⊥) → (or_else x y ≡ Err z) ↔ ((x ≡ none) × (y ≡ Err z))
else_iff (Ok u) y z other = (λ e. (refl, e), λ h. h.1)
else_iff (Err x) y z other = (λ e. absurd (other (cc)), λ h. absurd (not-none h.0))

pub else_first : {A : Type 0} (x : Refusal) (y : Result A Refusal) → or_else (Err x) y ≡ Err x
else_first x y = refl

-- ---- a test
module _ (t : Bool) (z : Refusal) where
  pub test_none : (pick t none (Err z) ≡ none) ↔ (t ≡ true)
  test_none = (to t, λ e. rw e)
    where
      to : (s : Bool) → pick s none (Err z) ≡ none → s ≡ true
      to true e = refl
      to false e = absurd (not-none e)

  pub test_iff : (pick t none (Err z) ≡ Err z) ↔ (t ≡ false)
  test_iff = (to t, λ e. rw e)
    where
      to : (s : Bool) → pick s none (Err z) ≡ Err z → s ≡ false
      to true e = absurd (not-none (sym e))
      to false e = refl

-- ---- what is answered and what is left: y says what is refused, k is what is counted
pub counted : (y : Fault) (k : ℕ) → y ≡ none → unless y k ≡ Ok k
counted y k z = rw z

pub not_counted : (y : Fault) (k : ℕ) {x : Refusal} → y ≡ Err x → unless y k ≡ Err x
not_counted y k e = rw e

pub counted_iff : (y : Fault) (k b : ℕ) → (unless y k ≡ Ok b) ↔ ((y ≡ none) × (b ≡ k))
counted_iff (Ok u) k b = (λ e. (refl, cc), λ h. ap Ok (sym h.1))
counted_iff (Err x) k b = (λ e. absurd (not-none e), λ h. absurd (not-none h.0))

-- new is what would be written over old
pub kept : (y : Fault) (k : ℕ) (new old : List ℕ) (x : Refusal) → unless y k ≡ Err x → pick (stands y) new old ≡ old
kept (Ok u) k new old x e = absurd (not-none (sym e))
kept (Err z) k new old x e = refl

pub written : (y : Fault) (new old : List ℕ) → y ≡ none → pick (stands y) new old ≡ new
written y new old z = rw z

pub not_written : (y : Fault) (new old : List ℕ) → (y ≡ none → ⊥) → pick (stands y) new old ≡ old
not_written (Ok u) new old ne = absurd (ne refl)
not_written (Err x) new old ne = refl
