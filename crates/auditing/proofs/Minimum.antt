-- Laws of the smallest of several numbers (`specs/Checks.antt`, `smallest`): of x and g 0, g 1, ..; and of a partition.
--     smallest-none, smallest_more      no number; one number more
--     smallest_le, smallest_at          it is at most each of them, and is one of them where they are below x
--     least-smallest, smallest_once     of a partition's places it is the smallest rule number, and there is one alone
--     Lowest, lowest-none, lowest_more, lowest_end      the loop that goes through the places
-- Assumes nothing.
use Prim.Native.Nat.{ℕ, zero, suc, min, ◌+◌, ◌-◌, ◌≤◌, ◌<◌}
use mathlib.Core.Bool.{Bool, true, false}
use mathlib.Core.Path.{◌≡◌, refl, sym, ap, ◌∙◌, subst}
use mathlib.Core.Logic.{◌⊎◌, inl, inr, ⊎_elim}
use native.Mathlib.Omega.{arith}
use native.Mathlib.Nat.{eq-or-lt_of_le, le_of_suc-le-suc}
use native.Mathlib.Numerals.{add-one}
use lib.Dec.{ltb}
use borrow.Author.Tests.{ltb-true, ltb-false}
use Rattle.tables.specs.Layout.{View}
use Rattle.sorting.specs.Promise.{InPart, Smallest}
use Rattle.auditing.specs.Checks.{smallest, least_from}

module _ (g : ℕ → ℕ) (x : ℕ) where
  pub smallest-none : x ≡ smallest g x 0
  unfolding smallest
  smallest-none = refl

  pub smallest_more : {k y : ℕ} → y ≡ smallest g x k → (z : ℕ) → z ≡ g k → {r : ℕ} → r ≡ min y z → r ≡ smallest g x (k + 1)
  unfolding smallest
  smallest_more {k} {y} is z is-z is_r = is_r ∙ rw (is, is-z, add-one)

  pub smallest_le : (m k : ℕ) → k < m → smallest g x m ≤ g k
  unfolding smallest
  smallest_le zero k lt = absurd (omega arith)
  smallest_le (suc m) k lt =
      ⊎_elim
      (λ e. let same : g k ≡ g m = ap g e in omega arith)
      (λ l. omega (arith, smallest_le m k l))
      (eq-or-lt_of_le (le_of_suc-le-suc lt))

  -- it is x, or one of the numbers
  smallest_which : (m : ℕ) → (smallest g x m ≡ x) ⊎ ((k : ℕ) × (k < m) × (g k ≡ smallest g x m))
  unfolding smallest
  smallest_which zero = inl refl
  smallest_which (suc m) = go (ltb (g m) (smallest g x m)) refl (smallest_which m)
    where
      go : (t : Bool) → ltb (g m) (smallest g x m) ≡ t → (smallest g x m ≡ x) ⊎ ((k : ℕ) × (k < m) × (g k ≡ smallest g x m))
          → (min (smallest g x m) (g m) ≡ x) ⊎ ((k : ℕ) × (k < suc m) × (g k ≡ min (smallest g x m) (g m)))
      go true e how =
          let under = ltb-true (g m) (smallest g x m) e in
          inr (m, omega arith, omega arith)
      go false e (inl is) =
          let over = ltb-false (g m) (smallest g x m) e in
          inl (omega arith)
      go false e (inr (k, lt, is)) =
          let over = ltb-false (g m) (smallest g x m) e in
          inr (k, omega arith, omega arith)

  pub smallest_at : (m : ℕ) → 0 < m → ((k : ℕ) → k < m → g k < x) → (k : ℕ) × (k < m) × (g k ≡ smallest g x m)
  smallest_at m some below = go (smallest_which m)
    where
      go : (smallest g x m ≡ x) ⊎ ((k : ℕ) × (k < m) × (g k ≡ smallest g x m)) → (k : ℕ) × (k < m) × (g k ≡ smallest g x m)
      go (inl is) = absurd (omega (arith, below 0 some, smallest_le m 0 some))
      go (inr at) = at

-- ---- of a partition: it has a place, and its rules are below n
module _ (v : View) (n q : ℕ) (part : q < v.b) (some : v.start q < v.start (suc q)) (below : (p : ℕ) → InPart v q p → v.order p < n) where
  pub least-smallest : Smallest v q (least_from n v.order (v.start q) (v.start (suc q)))
  least-smallest =
      let one = smallest_at g n size (omega arith) (λ k lt. below (v.start q + k) (inside k lt)) in
      record {
        at = (v.start q + one.0, inside one.0 one.1, one.2);
        least_of = λ p at.
            let here : v.start q + (p - v.start q) ≡ p = omega (arith, at.from_start) in
            subst (λ r. smallest g n size ≤ v.order r) here (smallest_le g n size (p - v.start q) (omega (arith, at.from_start, at.to_next)));
      }
    where
      g : ℕ → ℕ
      g k = v.order (v.start q + k)

      size : ℕ
      size = v.start (suc q) - v.start q

      inside : (k : ℕ) → k < size → InPart v q (v.start q + k)
      inside k lt = record { part = part; from_start = omega arith; to_next = omega arith }

pub smallest_once : {v : View} {q i j : ℕ} → Smallest v q i → Smallest v q j → i ≡ j
smallest_once {v} {q} {i} {j} h k =
    let p = h.at in
    let r = k.at in
    omega (arith, h.least_of r.0 r.1, r.2, k.least_of p.0 p.1, p.2)

-- ---- at the loop's head x is the smallest of the places s to before p
pub record Lowest (n : ℕ) (order : ℕ → ℕ) (s e p x : ℕ) : Type 0 where
  pub low : s ≤ p
  pub high : p - s ≤ e - s
  pub is : x ≡ smallest (λ k. order (s + k)) n (p - s)

pub lowest-none : (n : ℕ) (order : ℕ → ℕ) (s e : ℕ) → Lowest n order s e s n
lowest-none n order s e =
    let none : s - s ≡ 0 = omega arith in
    record { low = omega arith; high = omega arith; is = rw none (smallest-none (λ k. order (s + k)) n) }

module _ {n : ℕ} {order : ℕ → ℕ} {s e p x : ℕ} (h : Lowest n order s e p x) where
  -- i is the rule at place p, as it was read
  pub lowest_more : p < e → {i : ℕ} → i ≡ order p → {r : ℕ} → r ≡ min x i → Lowest n order s e (p + 1) r
  lowest_more lt {i} is_i {r} is_r =
      let here : s + (p - s) ≡ p = omega (arith, h.low) in
      let next : p + 1 - s ≡ (p - s) + 1 = omega (arith, h.low) in
      record {
        low = omega (arith, h.low);
        high = omega (arith, h.low);
        is = rw next (smallest_more (λ k. order (s + k)) n h.is i (is_i ∙ ap order (sym here)) is_r);
      }

  pub lowest_end : e ≤ p → x ≡ least_from n order s e
  lowest_end past =
      let all_of : p - s ≡ e - s = omega (arith, h.high) in
      h.is ∙ ap (smallest (λ k. order (s + k)) n) all_of
