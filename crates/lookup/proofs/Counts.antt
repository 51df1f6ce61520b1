-- How many tests a walk makes: on places s to before e, fewer than 2 ^ j of them and at least one, at field f, fewer than (d - f) + j.
-- A test that is below or above leaves less than half of the group, so j falls by one; one that is inside leaves no more than
-- the group, and d - f falls by one. Where a test leaves nothing it was the last one.
--     walk_few             the bound
--     walk_few_18          of at most 1,024 places and 8 fields, never more than 18
-- Assumes nothing.
use Prim.Native.Nat.{ℕ, zero, suc, ◌+◌, ◌-◌, ◌^◌, ◌≤◌, ◌<◌}
use mathlib.Core.Bool.{Bool, true, false}
use mathlib.Core.List.{List}
use mathlib.Core.Path.{◌≡◌, refl, sym}
use native.Mathlib.Omega.{arith}
use lib.Dec.{ltb}
use borrow.Author.Tests.{ltb-true, ltb-false}
use Rattle.std.specs.Prelude.{Option, None}
use Rattle.ranges.specs.declared.side.Side.{Side}
use Rattle.ranges.specs.declared.side.Side.TheVariants.{Below, Above, Inside}
use Rattle.ranges.proofs.Numbers.{never}
use Rattle.lists.specs.Limits.{most_rules}
use Rattle.lists.specs.Rules.{Rules, fields_of}
use Rattle.tables.specs.Layout.{View}
use Rattle.lookup.specs.Walk.{Walked, Stepped, ran, broken_walk, on, mid_of, leaves, arrived_of, walk_from}
use Rattle.lookup.proofs.Arrivals.{ran_one, arrived}
use Rattle.lookup.proofs.Steps.{on_one, Trusted, Tested, tested_fault, tested, test}
use Rattle.lookup.proofs.Walks.{walk_holds}

-- w, if it is an answer, comes after few tests more than t: none for an empty group
pub record Few (d s e f t : ℕ) (w : Walked) : Type 0 where
  pub none : e ≤ s → (x : Option ℕ) (u : ℕ) → w ≡ ran x u → u ≡ t
  pub some : s < e → f ≤ d → (j : ℕ) → e - s < 2 ^ j → (x : Option ℕ) (u : ℕ) → w ≡ ran x u → u < t + (d - f) + j

-- what a test costs: it leaves places s' to before e' at field f', from where few tests are made
module _ (d s e f t : ℕ) (w : Walked) (full : s < e) (in_row : f < d) where
  -- j, or d less the field, falls by one
  after : (s' e' f' i j : ℕ) → Few d s' e' f' (t + 1) w → f' ≤ d → e' - s' < 2 ^ i → (d - f') + i < (d - f) + j → 0 < j
      → (x : Option ℕ) (u : ℕ) → w ≡ ran x u → u < t + (d - f) + j
  after s' e' f' i j rest le size falls some x u ans = go (ltb s' e') refl
    where
      go : (c : Bool) → ltb s' e' ≡ c → u < t + (d - f) + j
      go true q = omega (arith, rest.some (ltb-true s' e' q) le i size x u ans)
      go false q = omega (arith, rest.none (ltb-false s' e' q) x u ans)

  costs : (y : Side) {a b s' e' f' : ℕ} → Trusted s e (mid_of s e) a b → leaves y s e f a b ≡ on s' e' f' → Few d s' e' f' (t + 1) w
      → (j : ℕ) → e - s < 2 ^ j → (x : Option ℕ) (u : ℕ) → w ≡ ran x u → u < t + (d - f) + j
  costs y tr is rest zero size = absurd (omega arith)
  costs Below {a} {b} {s'} {e'} {f'} tr is rest (suc j) size =
      let same = on_one is in
      after s' e' f' j (suc j) rest (omega arith) (omega arith) (omega arith) (omega arith)
  costs Above {a} {b} {s'} {e'} {f'} tr is rest (suc j) size =
      let same = on_one is in
      after s' e' f' j (suc j) rest (omega arith) (omega arith) (omega arith) (omega arith)
  costs Inside {a} {b} {s'} {e'} {f'} tr is rest (suc j) size =
      let same = on_one is in
      after s' e' f' (suc j) (suc j) rest (omega arith) (omega arith) (omega arith) (omega arith)

  step_costs : {R : Rules} {v : View} {h : List ℕ} {y : Stepped} {s' e' f' : ℕ} → Tested R v h s e f (mid_of s e) y → y ≡ on s' e' f' → Few d s' e' f' (t + 1) w
      → Few d s e f t w
  step_costs tested_fault is rest = never (cc)
  step_costs (tested y rule tr outcome) is rest =
      record {
        none = λ le. absurd (omega arith);
        some = λ lt le. costs y tr is rest;
      }

-- the three other ways out
broken_few : (d s e f t : ℕ) → Few d s e f t broken_walk
broken_few d s e f t = record { none = λ le x u is. never (cc); some = λ lt le j size x u is. never (cc) }

empty_few : (d s e f t : ℕ) → e ≤ s → Few d s e f t (ran None t)
empty_few d s e f t le = record { none = λ l x u is. sym (ran_one is).1; some = λ lt. absurd (omega arith) }

module _ (R : Rules) (v : View) (h : List ℕ) where
  arrived_few : (s e f t : ℕ) → s < e → fields_of R ≤ f → Few (fields_of R) s e f t (arrived_of R v h s e t)
  arrived_few s e f t lt at-end =
      record {
        none = λ le. absurd (omega arith);
        some = λ l le j size x u is. positive s e j t (fields_of R - f) u lt size (arrived R v h s e t x u is).tests;
      }
    where
      positive : (s e j t g u : ℕ) → s < e → e - s < 2 ^ j → u ≡ t → u < t + g + j
      positive s e zero t g u lt size is = absurd (omega arith)
      positive s e (suc j) t g u lt size is = omega arith

  few : (k s e f t : ℕ) → Few (fields_of R) s e f t (walk_from R v h k s e f t)
  few =
      walk_holds R v h (Few (fields_of R)) (broken_few (fields_of R)) (empty_few (fields_of R)) arrived_few
      (λ s e f t lt in_row s' e' f' is w rest. step_costs (fields_of R) s e f t w lt in_row (test R v h s e f (mid_of s e)) is rest)

  pub walk_few : (k s e f t j : ℕ) → s < e → f ≤ fields_of R → e - s < 2 ^ j → (x : Option ℕ) (u : ℕ) → walk_from R v h k s e f t ≡ ran x u
      → u < t + (fields_of R - f) + j
  walk_few k s e f t j lt in_row size x u is = (few k s e f t).some lt in_row j size x u is

  pub walk_few_18 : (k s e : ℕ) → s < e → e ≤ most_rules → fields_of R ≤ 8 → (x : Option ℕ) (u : ℕ) → walk_from R v h k s e 0 0 ≡ ran x u → u ≤ 18
  walk_few_18 k s e lt few_rules few_fields x u is = omega (arith, walk_few k s e 0 0 11 lt (omega arith) (omega arith) x u is)
