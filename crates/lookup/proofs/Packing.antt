-- Laws of a walk's answer as one number (`specs/Packed.antt`).
--     unpack_broken, unpack_miss, unpack_hit      what a number stands for, as the code works it out
--     packed_back                                 an answer with a small rule number and few tests comes back
-- Assumes nothing.
use Prim.Native.Nat.{ℕ, ◌+◌, ◌*◌, ◌/◌, ◌%◌, ◌<◌}
use mathlib.Core.Path.{◌≡◌, refl, ap, ◌∙◌}
use native.Mathlib.Omega.{arith}
use borrow.Author.Tests.{eq-eqb, ne_eqb}
use Rattle.std.specs.Prelude.{Option, Some, None, Ok, Err}
use Rattle.lookup.specs.Walk.{Walked, ran, broken_walk}
use Rattle.lookup.specs.Packed.{packed, unpacked}

-- ---- as the code unpacks a number c
module _ (c : ℕ) where
  pub unpack_broken : c / 65536 ≡ 65535 → unpacked c ≡ broken_walk
  unfolding unpacked
  unpack_broken is = rw (eq-eqb (c / 65536) 65535 is)

  module _ (stands : c / 65536 ≡ 65535 → ⊥) where
    pub unpack_miss : c / 65536 ≡ 65534 → unpacked c ≡ ran None (c % 65536)
    unfolding unpacked
    unpack_miss is = rw (ne_eqb (c / 65536) 65535 stands, eq-eqb (c / 65536) 65534 is)

    pub unpack_hit : (c / 65536 ≡ 65534 → ⊥) → unpacked c ≡ ran (Some (c / 65536)) (c % 65536)
    unfolding unpacked
    unpack_hit hits = rw (ne_eqb (c / 65536) 65535 stands, ne_eqb (c / 65536) 65534 hits)

-- ---- an answer comes back
-- w has a small rule number and few tests, if it has any
pub record Small (w : Walked) : Type 0 where
  pub few_tests : (x : Option ℕ) (u : ℕ) → w ≡ ran x u → u < 65536
  pub few_rules : (i u : ℕ) → w ≡ ran (Some i) u → i < 65534

pub packed_back : (w : Walked) → Small w → unpacked (packed w) ≡ w
packed_back (Err x) small = unpack_broken (65535 * 65536) refl
packed_back (Ok x) small = go x.found x.tests small
  where
    go : (found : Option ℕ) (t : ℕ) → Small (ran found t) → unpacked (packed (ran found t)) ≡ ran found t
    go None t small =
        let lt : t < 65536 = small.few_tests None t refl in
        let is_x : (65534 * 65536 + t) / 65536 ≡ 65534 = omega arith in
        let is-t : (65534 * 65536 + t) % 65536 ≡ t = omega arith in
        unpack_miss (65534 * 65536 + t) (λ is. omega (arith, is, is_x)) is_x ∙ ap (ran None) is-t
    go (Some i) t small =
        let lt : t < 65536 = small.few_tests (Some i) t refl in
        let below : i < 65534 = small.few_rules i t refl in
        let is_x : (i * 65536 + t) / 65536 ≡ i = omega arith in
        let is-t : (i * 65536 + t) % 65536 ≡ t = omega arith in
        unpack_hit (i * 65536 + t) (λ is. omega (arith, is, is_x)) (λ is. omega (arith, is, is_x)) ∙ rw (is_x, is-t)
