-- Laws of what a test says of the numbers below n (`specs/Numbers.antt`). A loop that tests 0, 1, .. keeps "all
-- below j passed", "t of those below j passed" or "none below j passed", and these laws take its step and its
-- ways out.
--     and_left, and_right, and_both    both of two tests; `and_fails`: the second does not pass
--     or_iff, or_neither               one of them, or neither
--     bit_one, bit_le, bit_test        a test's number tells its answer; it is 0 or 1, and 1 where the test passed
--     picked, not_picked               which way a test went, from the answer that it led to
--     all_yes, all_at, all_no, all_some     every number below n passes; each then does; one fails; and where not all pass, one fails
--     any_yes, any_no, any_at          a number below n passes; none does; and where some number does, one
--     count_more, count_le             one number more; never more than n (`Counting.antt` has more)
--     least_is, least-none             the least that passes; n where none does
--     least_hit, least_under, least_upto, least_le    it passes; those under it fail; it is at most each that passes, and at most n
--     greatest-holds                   the greatest passes, where one does, and is at least as great
--     all_same, any_same, least_same, greatest_same   two tests that answer alike below n
--     tab-length, tab_at               the list of a function's values; `tab_same`: of functions that agree; `tab-zero`: of one that is 0
--     same_list-refl, same_list_equal  a list is the same as itself; two that are the same are equal
--     same_list_is                     what a comparison answers
-- Assumes nothing.
use Prim.Native.Nat.{ℕ, zero, suc, ◌+◌, ◌≤◌, ◌<◌}
use mathlib.Core.Bool.{Bool, true, false}
use mathlib.Core.List.{List, [], ◌∷◌}
use mathlib.Core.Path.{◌≡◌, refl, sym, ap, ◌∙◌, subst}
use mathlib.Core.Logic.{◌⊎◌, inl, inr, ⊎_elim, ◌↔◌}
use native.Mathlib.Omega.{arith}
use native.Mathlib.Nat.{eq-or-lt_of_le, le_of_suc-le-suc}
use native.Mathlib.Numerals.{add-one}
use borrow.Author.Tests.{lt-ltb, le-ltb, ltb-true, ltb-false, eq-eqb, eqb-true}
use lib.Dec.{ltb, eqb}
use lib.ListN.{length, get_or, length-append, get_or-append, get_or-eq_default}
use lib.Seq.{get_or_at}
use Rattle.ranges.specs.Numbers.{pick, ◌and◌, ◌or◌, bit, all, any, count, least, greatest, tab, same_list}

-- 0 is not 1: what `cc` proves where two constructors would be equal
pub never {ℓ} : {A : Type ℓ} → ◌≡◌ {A = ℕ} 0 1 → A
never e = absurd (omega arith)

-- a test that is true and false at once
pub true-not-false : {t : Bool} → t ≡ true → t ≡ false → ⊥
true-not-false {t} p q = never (cc)

-- ---- tests joined
pub and_left : (s t : Bool) → s and t ≡ true → s ≡ true
and_left true t e = refl
and_left false t e = e

pub and_right : (s t : Bool) → s and t ≡ true → t ≡ true
and_right true t e = e
and_right false t e = never (cc)

pub and_both : (s t : Bool) → s ≡ true → t ≡ true → s and t ≡ true
and_both s t p q = rw (p, q)

pub and_fails : (s t : Bool) → t ≡ false → s and t ≡ false
and_fails true t e = e
and_fails false t e = refl

-- where s tests A and t tests B, one of them passes exactly when A or B holds
pub or_iff : {A B : Type 0} (s t : Bool) → ((s ≡ true) ↔ A) → ((t ≡ true) ↔ B) → (s or t ≡ true) ↔ (A ⊎ B)
or_iff true t p q = (λ e. inl (p.0 refl), λ either. refl)
or_iff false t p q = (λ e. inr (q.0 e), ⊎_elim (λ a. absurd (true-not-false (p.1 a) refl)) q.1)

pub or_neither : (s t : Bool) → s or t ≡ false → (s ≡ false) × (t ≡ false)
or_neither true t e = never (cc)
or_neither false t e = (refl, e)

or_last : (s t : Bool) → t ≡ true → s or t ≡ true
or_last true t e = refl
or_last false t e = e

pub bit_one : (s t : Bool) → bit s ≡ bit t → s ≡ t
bit_one true true e = refl
bit_one true false e = absurd (omega arith)
bit_one false true e = absurd (omega arith)
bit_one false false e = refl

-- it is 0 or 1, and 1 exactly where the test passed
pub bit_le : (t : Bool) → bit t ≤ 1
bit_le true = omega arith
bit_le false = omega arith

pub bit_test : (t : Bool) → eqb (bit t) 1 ≡ t
bit_test true = refl
bit_test false = refl

-- ---- which way a test went, from the answer that it led to
module _ {A : Type 0} (a b v : A) where
  pub picked : (t : Bool) → pick t a b ≡ v → (b ≡ v → ⊥) → (t ≡ true) × (a ≡ v)
  picked true e other = (refl, e)
  picked false e other = absurd (other e)

  pub not_picked : (t : Bool) → pick t a b ≡ v → (a ≡ v → ⊥) → (t ≡ false) × (b ≡ v)
  not_picked true e other = absurd (other e)
  not_picked false e other = (refl, e)

-- below suc n: below n, or n itself
below_suc : (k n : ℕ) → k < suc n → (P : ℕ → Type 0) → (k < n → P k) → P n → P k
below_suc k n lt P under here =
    ⊎_elim (λ e. subst P (sym e) here) (λ l. under l) (eq-or-lt_of_le (le_of_suc-le-suc lt))

-- ---- all
module _ (P : ℕ → Bool) where
  pub all_yes : (n : ℕ) → ((k : ℕ) → k < n → P k ≡ true) → all n P ≡ true
  unfolding all
  all_yes zero h = refl
  all_yes (suc n) h =
      let under : (k : ℕ) → k < n → P k ≡ true = λ k l. h k (omega arith) in
      let here : P n ≡ true = h n (omega arith) in
      and_both (all n P) (P n) (all_yes n under) here

  pub all_at : (n : ℕ) → all n P ≡ true → (k : ℕ) → k < n → P k ≡ true
  unfolding all
  all_at zero e k lt = absurd (omega arith)
  all_at (suc n) e k lt =
      below_suc k n lt (λ j. P j ≡ true) (all_at n (and_left (all n P) (P n) e) k) (and_right (all n P) (P n) e)

  pub all_no : (n k : ℕ) → k < n → P k ≡ false → all n P ≡ false
  all_no n k lt e = go (all n P) refl
    where
      go : (t : Bool) → all n P ≡ t → all n P ≡ false
      go true q = absurd (true-not-false (all_at n q k lt) e)
      go false q = q

  pub all_some : (n : ℕ) → all n P ≡ false → (k : ℕ) × (k < n) × (P k ≡ false)
  unfolding all
  all_some zero e = never (cc)
  all_some (suc n) e = go (P n) refl (all n P) refl (all_some n) e
    where
      go : (t : Bool) → P n ≡ t → (s : Bool) → all n P ≡ s → (all n P ≡ false → (k : ℕ) × (k < n) × (P k ≡ false)) → (s and t) ≡ false
          → (k : ℕ) × (k < suc n) × (P k ≡ false)
      go false p s q under e = (n, omega arith, p)
      go true p false q under e = let at = under q in (at.0, omega (arith, at.1), at.2)
      go true p true q under e = never (cc)

-- ---- any
module _ (P : ℕ → Bool) where
  pub any_at : (n : ℕ) → any n P ≡ true → (k : ℕ) × (k < n) × (P k ≡ true)
  unfolding any
  any_at zero e = never (cc)
  any_at (suc n) e = go (any n P) refl (any_at n) e
    where
      go : (s : Bool) → any n P ≡ s → (any n P ≡ true → (k : ℕ) × (k < n) × (P k ≡ true)) → s or P n ≡ true → (k : ℕ) × (k < suc n) × (P k ≡ true)
      go true q under e = let at = under q in (at.0, omega (arith, at.1), at.2)
      go false q under e = (n, omega arith, e)

  pub any_no : (n : ℕ) → ((k : ℕ) → k < n → P k ≡ false) → any n P ≡ false
  unfolding any
  any_no zero none = refl
  any_no (suc n) none = rw (any_no n (λ k lt. none k (omega arith)), none n (omega arith))

  pub any_yes : (n k : ℕ) → k < n → P k ≡ true → any n P ≡ true
  unfolding any
  any_yes zero k lt e = absurd (omega arith)
  any_yes (suc n) k lt e = below_suc k n lt (λ j. P j ≡ true → any n P or P n ≡ true) (λ l at. rw (any_yes n k l at)) (λ at. or_last (any n P) (P n) at) e

-- ---- count
module _ (P : ℕ → Bool) where
  pub count_more : (n : ℕ) → count (n + 1) P ≡ count n P + bit (P n)
  unfolding count
  count_more n = rw add-one

  pub count_le : (n : ℕ) → count n P ≤ n
  unfolding count
  count_le zero = omega arith
  count_le (suc n) = omega (arith, count_le n, bit_le (P n))

-- ---- least
module _ (P : ℕ → Bool) where
  pub least-none : (n : ℕ) → ((k : ℕ) → k < n → P k ≡ false) → least n P ≡ n
  unfolding least
  least-none zero h = refl
  least-none (suc n) h =
      let under : (k : ℕ) → k < n → P k ≡ false = λ k l. h k (omega arith) in
      let here : P n ≡ false = h n (omega arith) in
      let at_n = least-none n under in
      let over : n ≤ least n P = omega arith in
      rw (le-ltb (least n P) n over, here)

  -- one number more, where one under it passed
  least_kept : (n j : ℕ) → j < n → least n P ≡ j → least (suc n) P ≡ j
  unfolding least
  least_kept n j lt is =
      let under : least n P < n = omega arith in
      rw (lt-ltb (least n P) n under) is

  -- one number more, where none under it passed and it passes
  least_new : (n j : ℕ) → j ≡ n → P j ≡ true → least n P ≡ n → least (suc n) P ≡ j
  unfolding least
  least_new n j e passes none =
      let over : n ≤ least n P = omega arith in
      let here : P n ≡ true = subst (λ m. P m ≡ true) e passes in
      rw (le-ltb (least n P) n over, here) (sym e)

  pub least_is : (n j : ℕ) → j < n → P j ≡ true → ((k : ℕ) → k < j → P k ≡ false) → least n P ≡ j
  least_is zero j lt passes fail = absurd (omega arith)
  least_is (suc n) j lt passes fail =
      ⊎_elim
      (λ e. least_new n j e passes (least-none n (λ k l. fail k (omega arith))))
      (λ l. least_kept n j l (least_is n j l passes fail))
      (eq-or-lt_of_le (le_of_suc-le-suc lt))

  pub least_le : (n : ℕ) → least n P ≤ n
  unfolding least
  least_le zero = omega arith
  least_le (suc n) = go (ltb (least n P) n) (P n) (least_le n)
    where
      go : (s t : Bool) → least n P ≤ n → pick s (least n P) (pick t n (suc n)) ≤ suc n
      go true t le = omega arith
      go false true le = omega arith
      go false false le = omega arith

  -- what the least below n is, step by step: it passes if it is below n, and those under it fail
  step : (n : ℕ) → (least n P < n → P (least n P) ≡ true) → ((k : ℕ) → k < least n P → P k ≡ false) → least n P ≤ n
      → (s t : Bool) → ltb (least n P) n ≡ s → P n ≡ t
      → (pick s (least n P) (pick t n (suc n)) < suc n → P (pick s (least n P) (pick t n (suc n))) ≡ true)
      × ((k : ℕ) → k < pick s (least n P) (pick t n (suc n)) → P k ≡ false)
  step n hit under le true t es et = (λ l. hit (ltb-true (least n P) n es), under)
  step n hit under le false true es et =
      let is_n : n ≤ least n P = ltb-false (least n P) n es in
      (λ l. et, λ k l. under k (omega arith))
  step n hit under le false false es et =
      let is_n : n ≤ least n P = ltb-false (least n P) n es in
      (λ l. absurd (omega arith), λ k l. below_suc k n l (λ j. P j ≡ false) (λ m. under k (omega arith)) et)

  holds : (n : ℕ) → (least n P < n → P (least n P) ≡ true) × ((k : ℕ) → k < least n P → P k ≡ false)
  unfolding least
  holds zero = (λ l. absurd (omega arith), λ k l. absurd (omega arith))
  holds (suc n) = step n (holds n).0 (holds n).1 (least_le n) (ltb (least n P) n) (P n) refl refl

  pub least_hit : (n : ℕ) → least n P < n → P (least n P) ≡ true
  least_hit n = (holds n).0

  pub least_under : (n k : ℕ) → k < least n P → P k ≡ false
  least_under n k = (holds n).1 k

  pub least_upto : (n k : ℕ) → P k ≡ true → least n P ≤ k
  least_upto n k passes = go (ltb k (least n P)) refl
    where
      go : (t : Bool) → ltb k (least n P) ≡ t → least n P ≤ k
      go true e = absurd (true-not-false passes (least_under n k (ltb-true k (least n P) e)))
      go false e = ltb-false k (least n P) e

-- ---- greatest
module _ (P : ℕ → Bool) where
  -- where some number below n passes, the greatest is one that passes, at least as great
  pub greatest-holds : (n k : ℕ) → k < n → P k ≡ true → (P (greatest n P) ≡ true) × (k ≤ greatest n P) × (greatest n P < n)
  unfolding greatest
  greatest-holds zero k lt passes = absurd (omega arith)
  greatest-holds (suc n) k lt passes = go (P n) refl (λ l. greatest-holds n k l passes)
    where
      go : (t : Bool) → P n ≡ t → (k < n → (P (greatest n P) ≡ true) × (k ≤ greatest n P) × (greatest n P < n))
          → (P (pick t n (greatest n P)) ≡ true) × (k ≤ pick t n (greatest n P)) × (pick t n (greatest n P) < suc n)
      go true e under = (e, omega arith, omega arith)
      go false e under =
          ⊎_elim
          (λ is_n. absurd (true-not-false (subst (λ j. P j ≡ true) is_n passes) e))
          (λ l. ((under l).0, (under l).1, omega (arith, (under l).2)))
          (eq-or-lt_of_le (le_of_suc-le-suc lt))

-- ---- two tests that answer alike
module _ (P Q : ℕ → Bool) where
  pub all_same : (n : ℕ) → ((k : ℕ) → k < n → P k ≡ Q k) → all n P ≡ all n Q
  unfolding all
  all_same zero same = refl
  all_same (suc n) same = rw (all_same n (λ k lt. same k (omega arith)), same n (omega arith))

  pub any_same : (n : ℕ) → ((k : ℕ) → k < n → P k ≡ Q k) → any n P ≡ any n Q
  unfolding any
  any_same zero same = refl
  any_same (suc n) same = rw (any_same n (λ k lt. same k (omega arith)), same n (omega arith))

  pub least_same : (n : ℕ) → ((k : ℕ) → k < n → P k ≡ Q k) → least n P ≡ least n Q
  unfolding least
  least_same zero same = refl
  least_same (suc n) same = rw (least_same n (λ k lt. same k (omega arith)), same n (omega arith))

  pub greatest_same : (n : ℕ) → ((k : ℕ) → k < n → P k ≡ Q k) → greatest n P ≡ greatest n Q
  unfolding greatest
  greatest_same zero same = refl
  greatest_same (suc n) same = rw (greatest_same n (λ k lt. same k (omega arith)), same n (omega arith))

-- ---- tab
module _ (f : ℕ → ℕ) where
  pub tab-length : (n : ℕ) → length (tab n f) ≡ n
  unfolding tab
  tab-length zero = refl
  tab-length (suc n) = rw (length-append, tab-length n, add-one)

  pub tab_at : (n k : ℕ) → k < n → get_or (tab n f) k 0 ≡ f k
  unfolding tab
  tab_at zero k lt = absurd (omega arith)
  tab_at (suc n) k lt =
      ⊎_elim
      (λ e. get_or_at (tab n f) (f n) [] 0 k (tab-length n ∙ sym e) ∙ ap f (sym e))
      (λ l. let inside : k < length (tab n f) = rw (tab-length n) l in get_or-append (tab n f) (f n ∷ []) 0 k inside ∙ tab_at n k l)
      (eq-or-lt_of_le (le_of_suc-le-suc lt))

-- functions that agree below n have the same values there
pub tab_same : {f g : ℕ → ℕ} (n : ℕ) → ((k : ℕ) → k < n → f k ≡ g k) → tab n f ≡ tab n g
unfolding tab
tab_same zero agree = refl
tab_same {f} {g} (suc n) agree = rw (tab_same n (λ k lt. agree k (omega arith)), agree n (omega arith))

-- zeros are zeros, and so is what is read past them
pub tab-zero : {f : ℕ → ℕ} (n k : ℕ) → ((j : ℕ) → f j ≡ 0) → get_or (tab n f) k 0 ≡ 0
tab-zero {f} n k zeros = go (ltb k n) refl
  where
    go : (t : Bool) → ltb k n ≡ t → get_or (tab n f) k 0 ≡ 0
    go true e = tab_at f n k (ltb-true k n e) ∙ zeros k
    go false e = get_or-eq_default (tab n f) 0 (rw (tab-length f n) (ltb-false k n e))

-- ---- the same list
pub same_list-refl : (xs : List ℕ) → same_list xs xs ≡ true
same_list-refl [] = refl
same_list-refl (x ∷ xs) = and_both (eqb x x) (same_list xs xs) (eq-eqb x x refl) (same_list-refl xs)

pub same_list_equal : (xs ys : List ℕ) → same_list xs ys ≡ true → xs ≡ ys
same_list_equal [] [] e = refl
same_list_equal [] (y ∷ ys) e = never (cc)
same_list_equal (x ∷ xs) [] e = never (cc)
same_list_equal (x ∷ xs) (y ∷ ys) e =
    let head : x ≡ y = eqb-true x y (and_left (eqb x y) (same_list xs ys) e) in
    let tail : xs ≡ ys = same_list_equal xs ys (and_right (eqb x y) (same_list xs ys) e) in
    cc

-- an answer that is true exactly for the same numbers
pub same_list_is : (xs ys : List ℕ) {r : Bool} → (r ≡ true → xs ≡ ys) × (xs ≡ ys → r ≡ true) → {t : Bool} → r ≡ t → same_list xs ys ≡ t
same_list_is xs ys {r} told {t} is = go (same_list xs ys) r refl refl ∙ is
  where
    go : (s u : Bool) → same_list xs ys ≡ s → r ≡ u → same_list xs ys ≡ r
    go true true p q = p ∙ sym q
    go false false p q = p ∙ sym q
    go true false p q = let e : r ≡ true = told.1 (same_list_equal xs ys p) in never (cc)
    go false true p q =
        let e : xs ≡ ys = told.0 q in
        let f : same_list xs xs ≡ true = same_list-refl xs in
        let g : same_list xs ys ≡ true = rw (← e) f in
        never (cc)
