-- Laws of the end of a walk at field d (`specs/Walk.antt`).
--     ran_one                                     two walks that ran alike
--     arrive_many, arrive_unfit, arrive_fits      not one place; no such rule or one that does not fit; the candidate i
--     Arrived, arrived, arrived_yes               what an answer says, either way round
-- Assumes nothing.
use Prim.Native.Nat.{ℕ, ◌+◌, ◌≤◌, ◌<◌}
use mathlib.Core.Bool.{Bool, true, false}
use mathlib.Core.List.{List}
use mathlib.Core.Path.{◌≡◌, refl, sym, ap}
use lib.Dec.{ltb, eqb}
use borrow.Author.Tests.{lt-ltb, le-ltb, eq-eqb, ne_eqb, ltb-true, eqb-true}
use Rattle.std.specs.Prelude.{Option, Some}
use Rattle.ranges.specs.Numbers.{pick, ◌and◌}
use Rattle.ranges.proofs.Numbers.{never}
use Rattle.lists.specs.Rules.{Rules, fields_of, rules_in}
use Rattle.lists.specs.FirstMatch.{fits}
use Rattle.lists.specs.Faults.{in_list}
use Rattle.lists.specs.Scan.{fits_in}
use Rattle.tables.specs.Layout.{View}
use Rattle.lookup.specs.Walk.{ran, broken_walk, arrived_of}
use Rattle.lookup.specs.Bounds.{tests_of, found_by}

-- for 1 to 8 fields, whether the list has a rule i that fits is the confirming comparison with its bound
confirmed : (R : Rules) (h : List ℕ) (i : ℕ) → 1 ≤ fields_of R → fields_of R ≤ 8 → fits_in R h i ≡ (ltb i (rules_in R) and fits R h i)
unfolding fits_in in_list
confirmed R h i some few = rw (le-ltb (fields_of R) 1 some, le-ltb 8 (fields_of R) few)

-- two walks that ran alike found the same with the same tests
pub ran_one : {x y : Option ℕ} {t u : ℕ} → ran x t ≡ ran y u → (x ≡ y) × (t ≡ u)
ran_one is = (ap found_by is, ap tests_of is)

-- ---- as the code works it out: i is the rule number at place s, and fit whether the list has such a rule that fits
module _ (R : Rules) (v : View) (h : List ℕ) (s e t : ℕ) where
  pub arrive_many : (e ≡ s + 1 → ⊥) → arrived_of R v h s e t ≡ broken_walk
  unfolding arrived_of
  arrive_many ne = rw (ne_eqb e (s + 1) ne)

  module _ (i : ℕ) (some : 1 ≤ fields_of R) (few : fields_of R ≤ 8) (one : e ≡ s + 1) (is_i : i ≡ v.order s) where
    pub arrive_unfit : fits_in R h i ≡ false → arrived_of R v h s e t ≡ broken_walk
    unfolding arrived_of
    arrive_unfit unfit = rw (eq-eqb e (s + 1) one, ← is_i, ← confirmed R h i some few, unfit)

    pub arrive_fits : fits_in R h i ≡ true → arrived_of R v h s e t ≡ ran (Some i) t
    unfolding arrived_of
    arrive_fits fit = rw (eq-eqb e (s + 1) one, ← is_i, ← confirmed R h i some few, fit)

-- ---- what an answer says: the group was one place, its rule is of the list and fits, and is the candidate
pub record Arrived (R : Rules) (v : View) (h : List ℕ) (s e t : ℕ) (x : Option ℕ) (u : ℕ) : Type 0 where
  pub one : e ≡ s + 1
  pub rule : v.order s < rules_in R
  pub fit : fits R h (v.order s) ≡ true
  pub found : x ≡ Some (v.order s)
  pub tests : u ≡ t

pub arrived : (R : Rules) (v : View) (h : List ℕ) (s e t : ℕ) (x : Option ℕ) (u : ℕ) → arrived_of R v h s e t ≡ ran x u → Arrived R v h s e t x u
unfolding arrived_of
arrived R v h s e t x u = go (eqb e (s + 1)) (ltb (v.order s) (rules_in R)) (fits R h (v.order s)) refl refl refl
  where
    go : (o p q : Bool) → eqb e (s + 1) ≡ o → ltb (v.order s) (rules_in R) ≡ p → fits R h (v.order s) ≡ q
        → pick (o and p and q) (ran (Some (v.order s)) t) broken_walk ≡ ran x u → Arrived R v h s e t x u
    go false p q is-o is_p is_q is = never (cc)
    go true false q is-o is_p is_q is = never (cc)
    go true true false is-o is_p is_q is = never (cc)
    go true true true is-o is_p is_q is =
        let same = ran_one is in
        record { one = eqb-true e (s + 1) is-o; rule = ltb-true (v.order s) (rules_in R) is_p; fit = is_q; found = sym same.0; tests = sym same.1 }

-- and the other way round
pub arrived_yes : (R : Rules) (v : View) (h : List ℕ) (s e t : ℕ) → e ≡ s + 1 → v.order s < rules_in R → fits R h (v.order s) ≡ true
    → arrived_of R v h s e t ≡ ran (Some (v.order s)) t
unfolding arrived_of
arrived_yes R v h s e t one rule fit = rw (eq-eqb e (s + 1) one, lt-ltb (v.order s) (rules_in R) rule, fit)
