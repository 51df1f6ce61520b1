-- Marks of numbers that were seen (`specs/Asked.antt`, `Seen`): one a number, true where it was.
--     unseen                         none of the first k numbers is q
--     seen_none, seen_more           no number yet, one more
--     seen-fresh, seen-before        what a mark says
-- Assumes nothing.
use Prim.Native.Nat.{ℕ, ◌+◌, ◌<◌}
use mathlib.Core.Bool.{Bool, true, false, not}
use mathlib.Core.List.{List}
use mathlib.Core.Path.{◌≡◌, refl, sym, ap, ◌∙◌, subst}
use native.Mathlib.Omega.{arith}
use native.Mathlib.Numerals.{add-one}
use lib.Dec.{eqb}
use lib.ListN.{get_or, set, replicate, length-set, length-replicate, get_or-replicate}
use lib.Seq.{get_or-set_same, get_or-set_other}
use borrow.Author.Tests.{eq-eqb, eqb-true, eqb-false, not-true, not-false}
use Rattle.ranges.specs.Numbers.{◌and◌, all}
use Rattle.ranges.proofs.Numbers.{all_yes, all_no}
use Rattle.lists.specs.Limits.{most_rules}
use Rattle.sorting.specs.Asked.{Seen}

-- none of g 0 to g (k - 1) is q
abbrev pub unseen : (ℕ → ℕ) → ℕ → ℕ → Bool
unseen g k q = all k (λ i. not (eqb (g i) q))

pub seen_none : (g : ℕ → ℕ) → Seen g 0 (replicate most_rules false)
seen_none g =
    record {
      long = length-replicate {A = Bool} most_rules false;
      marked = λ q lt.
          get_or-replicate {A = Bool} most_rules q false false lt ∙ ap not (sym (all_yes (λ i. not (eqb (g i) q)) 0 (λ k l. absurd (omega arith))));
    }

one_more : (g : ℕ → ℕ) (k q : ℕ) → unseen g (k + 1) q ≡ (unseen g k q and not (eqb (g k) q))
unfolding all
one_more g k q = rw add-one

and-true : (t : Bool) → (t and true) ≡ t
and-true true = refl
and-true false = refl

module _ {g : ℕ → ℕ} {k : ℕ} {marks : List Bool} (h : Seen g k marks) where
  -- i is g k, as it was read
  pub seen_more : {i : ℕ} → i ≡ g k → i < most_rules → Seen g (k + 1) (set marks i true)
  seen_more {i} is_i few = record { long = rw length-set h.long; marked = λ q lt. go q lt (eqb i q) refl }
    where
      go : (q : ℕ) → q < most_rules → (t : Bool) → eqb i q ≡ t → get_or (set marks i true) q false ≡ not (unseen g (k + 1) q)
      go q lt true e =
          let same = eqb-true i q e in
          let here : get_or (set marks i true) q false ≡ true = subst (λ x. get_or (set marks i true) x false ≡ true) same (get_or-set_same marks i true false (omega (arith, h.long))) in
          rw here (ap not (sym (all_no (λ j. not (eqb (g j) q)) (k + 1) k (omega arith) (ap not (eq-eqb (g k) q (sym is_i ∙ same))))))
      go q lt false e =
          let other = eqb-false i q e in
          let there : get_or (set marks i true) q false ≡ get_or marks q false = get_or-set_other marks i q true false (λ same. other (sym same)) in
          let unlike : eqb (g k) q ≡ false = ap (λ x. eqb x q) (sym is_i) ∙ e in
          rw (there, one_more g k q, unlike, h.marked q lt) (ap not (sym (and-true (unseen g k q))))

  -- what a mark says of the number i
  module _ {i : ℕ} (few : i < most_rules) where
    pub seen-fresh : get_or marks i false ≡ false → unseen g k i ≡ true
    seen-fresh unmarked = not-false (unseen g k i) (sym (h.marked i few) ∙ unmarked)

    pub seen-before : get_or marks i false ≡ true → unseen g k i ≡ false
    seen-before marked = not-true (unseen g k i) (sym (h.marked i few) ∙ marked)
