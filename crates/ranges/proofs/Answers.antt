-- What an answer says tells it apart from every other (`specs/Refusals.antt`): a refusal by its three numbers, and what is
-- answered by its own.
--     cause_of, cause_back, number_one     a row by its number; rows of the same number are one
--     said_one                             two answers that say the same are one, where what is answered tells them apart
--     count_said_one, bounds_said_one      so of two counts, and of two ranges of a prefix
-- Assumes nothing.
use Prim.Native.Nat.{ℕ}
use mathlib.Core.List.{List, [], ◌∷◌}
use mathlib.Core.Path.{◌≡◌, refl, sym, ap, ◌∙◌}
use native.Mathlib.Omega.{arith}
use lib.Dec.{eqb}
use Rattle.std.specs.Prelude.{Result, Ok, Err}
use Rattle.ranges.specs.Numbers.{pick}
use Rattle.ranges.specs.Refusals.{Refusal, number_of, refusing, Said, says, says_count, BadFields, BadLength, TooManyRules, LowAboveHigh, BadTableLength, BrokenTable, NoSuchPartition, BadLine, BadWidth, BadPrefix, BadRange, TooLittleRoom, BadRunLength, BadPartitionNumber, EmptyPartition, ClashInPartition}
use Rattle.ranges.specs.Prefixes.{says_bounds}
use Rattle.ranges.specs.declared.refusal.Cause.{Cause}
use Rattle.ranges.specs.declared.prefix.Bounds.{Bounds}

-- the row of a number; any, of a number that has none
abbrev pub cause_of : ℕ → Cause
cause_of n =
    pick (eqb n 1) BadFields (
    pick (eqb n 2) BadLength (
    pick (eqb n 3) TooManyRules (
    pick (eqb n 4) LowAboveHigh (
    pick (eqb n 5) BadTableLength (
    pick (eqb n 6) BrokenTable (
    pick (eqb n 7) NoSuchPartition (
    pick (eqb n 8) BadLine (
    pick (eqb n 9) BadWidth (
    pick (eqb n 10) BadPrefix (
    pick (eqb n 11) BadRange (
    pick (eqb n 12) TooLittleRoom (
    pick (eqb n 15) BadRunLength (
    pick (eqb n 16) BadPartitionNumber (
    pick (eqb n 17) EmptyPartition ClashInPartition))))))))))))))

pub cause_back : (c : Cause) → cause_of (number_of c) ≡ c
cause_back BadFields = refl
cause_back BadLength = refl
cause_back TooManyRules = refl
cause_back LowAboveHigh = refl
cause_back BadTableLength = refl
cause_back BrokenTable = refl
cause_back NoSuchPartition = refl
cause_back BadLine = refl
cause_back BadWidth = refl
cause_back BadPrefix = refl
cause_back BadRange = refl
cause_back TooLittleRoom = refl
cause_back BadRunLength = refl
cause_back BadPartitionNumber = refl
cause_back EmptyPartition = refl
cause_back ClashInPartition = refl

pub number_one : (a b : Cause) → number_of a ≡ number_of b → a ≡ b
number_one a b e = sym (cause_back a) ∙ ap cause_of e ∙ cause_back b

-- each number of the table is at least 1
pub number_some : (c : Cause) → number_of c ≡ 0 → ⊥
number_some c e = go (sym (cause_back c) ∙ ap cause_of e)
  where
    go : c ≡ ClashInPartition → ⊥
    go is = absurd (omega (arith, e, ap number_of is))

-- a refusal by what it says
abbrev refusal_in : Said → Refusal
refusal_in s = refusing (cause_of s.number) s.at s.then

module _ {A : Type 0} (f : A → List ℕ) (one : (a b : A) → f a ≡ f b → a ≡ b) where
  pub said_one : (x y : Result A Refusal) → says f x ≡ says f y → x ≡ y
  said_one (Ok a) (Ok b) same = ap Ok (one a b (ap (λ (s : Said). s.answer) same))
  said_one (Ok a) (Err y) same = absurd (number_some y.cause (sym (ap (λ (s : Said). s.number) same)))
  said_one (Err x) (Ok b) same = absurd (number_some x.cause (ap (λ (s : Said). s.number) same))
  said_one (Err x) (Err y) same = ap Err (go x ∙ ap refusal_in same ∙ sym (go y))
    where
      go : (z : Refusal) → z ≡ refusal_in (says f (Err z))
      go z = ap (λ c. refusing c z.at z.then) (sym (cause_back z.cause))

pub count_said_one : (a b : Result ℕ Refusal) → says_count a ≡ says_count b → a ≡ b
count_said_one a b same = said_one (λ k. k ∷ []) (λ j k e. cc) a b same

pub bounds_said_one : (a b : Result Bounds Refusal) → says_bounds a ≡ says_bounds b → a ≡ b
bounds_said_one a b same = said_one (λ (b : Bounds). b.low ∷ b.high ∷ []) go a b same
  where
    go : (p q : Bounds) → p.low ∷ p.high ∷ [] ≡ q.low ∷ q.high ∷ [] → p ≡ q
    go p q e =
        let low : p.low ≡ q.low = cc in
        let high : p.high ≡ q.high = cc in
        rw (low, high)
