-- Laws of how many numbers below n pass a test (`count` of `specs/Numbers.antt`; its first laws are in `Numbers.antt`), up to the pigeonhole.
--     count-all, count_none                  all pass; none passes
--     count_mono, count_strict, count_lt     a test that passes no less; that passes one more; one that fails
--     count_split                            a test that passes where one of two does, but never both
--     count_once, count_some                 at most one passes; some passes
--     onto                                   a one-to-one function from the numbers below n to themselves reaches each of them
-- Assumes nothing.
use Prim.Native.Nat.{ℕ, zero, suc, ◌+◌, ◌-◌, ◌≤◌, ◌<◌}
use mathlib.Core.Bool.{Bool, true, false}
use mathlib.Core.Path.{◌≡◌, refl, sym, ap, ◌∙◌}
use mathlib.Core.Logic.{⊎_elim}
use native.Mathlib.Omega.{arith}
use native.Mathlib.Nat.{eq-or-lt_of_le, le_of_suc-le-suc}
use lib.Dec.{ltb, eqb}
use borrow.Author.Tests.{lt-ltb, le-ltb, ltb-true, ltb-false, eqb-true, eqb-false}
use Rattle.ranges.specs.Numbers.{bit, count}

-- ---- one test's share
bit_mono : (s t : Bool) → (s ≡ true → t ≡ true) → bit s ≤ bit t
bit_mono false t h = omega arith
bit_mono true t h = rw (h refl) (omega arith)

-- ---- one test
module _ (P : ℕ → Bool) where
  pub count-all : (n : ℕ) → ((k : ℕ) → k < n → P k ≡ true) → count n P ≡ n
  unfolding count
  count-all zero h = refl
  count-all (suc n) h = rw (count-all n (λ k l. h k (omega arith)), h n (omega arith)) (omega arith)

  pub count_none : (n : ℕ) → ((k : ℕ) → k < n → P k ≡ false) → count n P ≡ 0
  unfolding count
  count_none zero h = refl
  count_none (suc n) h = rw (count_none n (λ k l. h k (omega arith)), h n (omega arith))

-- ---- two tests
module _ (P Q : ℕ → Bool) where
  pub count_mono : (n : ℕ) → ((k : ℕ) → k < n → P k ≡ true → Q k ≡ true) → count n P ≤ count n Q
  unfolding count
  count_mono zero h = omega arith
  count_mono (suc n) h =
      omega (arith, count_mono n (λ k l. h k (omega arith)), bit_mono (P n) (Q n) (h n (omega arith)))

  -- Q passes wherever P does, and at j, where P fails
  pub count_strict : (n j : ℕ) → j < n → ((k : ℕ) → k < n → P k ≡ true → Q k ≡ true) → P j ≡ false → Q j ≡ true → count n P < count n Q
  unfolding count
  count_strict zero j lt h fails passes = absurd (omega arith)
  count_strict (suc n) j lt h fails passes =
      ⊎_elim here (λ l. more (count_strict n j l (λ k l. h k (omega arith)) fails passes)) (eq-or-lt_of_le (le_of_suc-le-suc lt))
    where
      -- j is the number that is added
      here : j ≡ n → count n P + bit (P n) < count n Q + bit (Q n)
      here e =
          let under : count n P ≤ count n Q = count_mono n (λ k l. h k (omega arith)) in
          omega (arith, ap bit (sym (ap P e) ∙ fails), ap bit (sym (ap Q e) ∙ passes))

      more : count n P < count n Q → count n P + bit (P n) < count n Q + bit (Q n)
      more under = omega (arith, bit_mono (P n) (Q n) (h n (omega arith)))

  -- S passes where one of the two does, which is never both
  pub count_split : (S : ℕ → Bool) (n : ℕ) → ((k : ℕ) → k < n → bit (S k) ≡ bit (P k) + bit (Q k)) → count n S ≡ count n P + count n Q
  unfolding count
  count_split S zero h = refl
  count_split S (suc n) h = omega (arith, count_split S n (λ k l. h k (omega arith)), h n (omega arith))

-- ---- a test's count against a bound
module _ (P : ℕ → Bool) where
  -- one number below n fails
  pub count_lt : (n j : ℕ) → j < n → P j ≡ false → count n P < n
  count_lt n j lt fails =
      omega (arith, count_strict P (λ k. true) n j lt (λ k l e. refl) fails refl, count-all (λ k. true) n (λ k l. refl))

  -- two numbers that pass are one
  pub count_once : (n : ℕ) → ((j k : ℕ) → j < n → k < n → P j ≡ true → P k ≡ true → j ≡ k) → count n P ≤ 1
  unfolding count
  count_once zero h = omega arith
  count_once (suc n) h = go (P n) refl (count_once n (λ j k a b. h j k (omega arith) (omega arith)))
    where
      go : (t : Bool) → P n ≡ t → count n P ≤ 1 → count n P + bit t ≤ 1
      go false e few = omega arith
      go true e few =
          let none-under : count n P ≡ 0 = count_none P n (λ k l. under k l (P k) refl) in
          omega arith
        where
          under : (k : ℕ) → k < n → (u : Bool) → P k ≡ u → P k ≡ false
          under k l false q = q
          under k l true q = absurd (omega (arith, h k n (omega arith) (omega arith) q e))

  pub count_some : (n : ℕ) → 0 < count n P → (k : ℕ) × (k < n) × (P k ≡ true)
  unfolding count
  count_some zero some = absurd (omega arith)
  count_some (suc n) some = go (P n) refl (count_some n) some
    where
      go : (t : Bool) → P n ≡ t → (0 < count n P → (k : ℕ) × (k < n) × (P k ≡ true)) → 0 < count n P + bit t
          → (k : ℕ) × (k < suc n) × (P k ≡ true)
      go true e under more = (n, omega arith, e)
      go false e under more =
          let at = under (omega arith) in
          (at.0, omega (arith, at.1), at.2)

-- ---- a one-to-one function
-- a number's share in "below m + 1" is its share in "below m" and in "m itself"
bit-suc : (x m : ℕ) → bit (ltb x (suc m)) ≡ bit (ltb x m) + bit (eqb x m)
bit-suc x m = go (ltb x m) (eqb x m) refl refl
  where
    go : (s t : Bool) → ltb x m ≡ s → eqb x m ≡ t → bit (ltb x (suc m)) ≡ bit s + bit t
    go true true p q = absurd (omega (arith, ltb-true x m p, eqb-true x m q))
    go true false p q = let under : x < suc m = omega (arith, ltb-true x m p) in ap bit (lt-ltb x (suc m) under)
    go false true p q = let under : x < suc m = omega (arith, eqb-true x m q) in ap bit (lt-ltb x (suc m) under)
    go false false p q =
        let over : suc m ≤ x = lt_of_not (ltb-false x m p) (eqb-false x m q) in
        ap bit (le-ltb x (suc m) over)
      where
        lt_of_not : m ≤ x → (x ≡ m → ⊥) → suc m ≤ x
        lt_of_not le ne = omega arith

module _ (n : ℕ) (f : ℕ → ℕ) where
  -- one value more
  reach : (m : ℕ) → count n (λ k. ltb (f k) (suc m)) ≡ count n (λ k. ltb (f k) m) + count n (λ k. eqb (f k) m)
  reach m =
      count_split (λ k. ltb (f k) m) (λ k. eqb (f k) m) (λ k. ltb (f k) (suc m)) n (λ k l. bit-suc (f k) m)

  module _ (into : (k : ℕ) → k < n → f k < n) (once : (j k : ℕ) → j < n → k < n → f j ≡ f k → j ≡ k) where
    -- each value is taken at most once
    at_most : (m : ℕ) → count n (λ k. eqb (f k) m) ≤ 1
    at_most m = count_once (λ k. eqb (f k) m) n (λ j k a b p q. once j k a b (eqb-true (f j) m p ∙ sym (eqb-true (f k) m q)))

    -- so at most m values are below m ..
    few : (m : ℕ) → count n (λ k. ltb (f k) m) ≤ m
    few zero = omega (arith, count_none (λ k. ltb (f k) 0) n (λ k l. le-ltb (f k) 0 (omega arith)))
    few (suc m) = omega (arith, few m, reach m, at_most m)

    -- .. and all but j are below n - j
    many : (j m : ℕ) → m + j ≡ n → n ≤ count n (λ k. ltb (f k) m) + j
    many zero m e =
        omega (arith, count-all (λ k. ltb (f k) m) n (λ k l. let lt : f k < m = omega (arith, into k l) in lt-ltb (f k) m lt))
    many (suc j) m e = omega (arith, many j (suc m) (omega arith), reach m, at_most m)

    -- so each value below n is taken
    pub onto : (p : ℕ) → p < n → (k : ℕ) × (k < n) × (f k ≡ p)
    onto p lt =
        let some : 0 < count n (λ k. eqb (f k) p) = omega (arith, few p, reach p, many (n - suc p) (suc p) (omega arith)) in
        let at = count_some (λ k. eqb (f k) p) n some in
        (at.0, at.1, eqb-true (f at.0) p at.2)
