-- Laws of a partition visited (`specs/Lookup.antt`).
--     visit_none, visit_past, visit_walks      no place; an end past n; the walk
--     by-none, by_past, by_going, by_walk      the same, as the code works it out
--     visit_few, told_few                      a partition's tests are at most 18
-- Assumes nothing.
use Prim.Native.Nat.{ℕ, suc, ◌+◌, ◌-◌, ◌≤◌, ◌<◌}
use mathlib.Core.Bool.{Bool, true, false}
use mathlib.Core.List.{List}
use mathlib.Core.Path.{◌≡◌, refl, sym, ap, ◌∙◌}
use native.Mathlib.Omega.{arith}
use native.Mathlib.Numerals.{add-one}
use lib.Dec.{ltb, leb}
use borrow.Author.Tests.{lt-ltb, le-ltb, le-leb, lt-leb, ltb-true, leb-true}
use Rattle.std.specs.Prelude.{Option}
use Rattle.ranges.specs.Numbers.{pick, ◌and◌}
use Rattle.ranges.proofs.Numbers.{never}
use Rattle.lists.specs.Limits.{most_fields, most_rules}
use Rattle.lists.specs.Rules.{Rules, fields_of, rules_in}
use Rattle.tables.specs.Layout.{View}
use Rattle.lookup.specs.Lent.{Going}
use Rattle.lookup.specs.Walk.{Walked, ran, broken_walk, walk_from}
use Rattle.lookup.specs.Packed.{packed, unpacked}
use Rattle.lookup.specs.Lookup.{visit_of}
use Rattle.lookup.proofs.Counts.{walk_few_18}
use Rattle.lookup.proofs.Named.{walk_fits}
use Rattle.lookup.proofs.Packing.{Small, packed_back}

-- ---- a partition
module _ (R : Rules) (v : View) (h : List ℕ) (q : ℕ) where
  pub visit_none : v.start (suc q) ≤ v.start q → visit_of R v h q ≡ broken_walk
  unfolding visit_of
  visit_none le = rw (le-ltb (v.start q) (v.start (suc q)) le)

  module _ (some : v.start q < v.start (suc q)) where
    pub visit_past : rules_in R < v.start (suc q) → visit_of R v h q ≡ broken_walk
    unfolding visit_of
    visit_past past = rw (lt-ltb (v.start q) (v.start (suc q)) some, lt-leb (v.start (suc q)) (rules_in R) past)

    pub visit_walks : v.start (suc q) ≤ rules_in R
        → visit_of R v h q ≡ walk_from R v h (suc (rules_in R + fields_of R)) (v.start q) (v.start (suc q)) 0 0
    unfolding visit_of
    visit_walks le = rw (lt-ltb (v.start q) (v.start (suc q)) some, le-leb (v.start (suc q)) (rules_in R) le)

  -- what an answer says: the partition has a place and ends within the n places, and the walk answered
  pub record Walks (x : Option ℕ) (u : ℕ) : Type 0 where
    pub some : v.start q < v.start (suc q)
    pub within : v.start (suc q) ≤ rules_in R
    pub walks : walk_from R v h (suc (rules_in R + fields_of R)) (v.start q) (v.start (suc q)) 0 0 ≡ ran x u

  pub visited_walks : (x : Option ℕ) (u : ℕ) → visit_of R v h q ≡ ran x u → Walks x u
  unfolding visit_of
  visited_walks x u = go (ltb (v.start q) (v.start (suc q))) (leb (v.start (suc q)) (rules_in R)) refl refl
    where
      go : (p r : Bool) → ltb (v.start q) (v.start (suc q)) ≡ p → leb (v.start (suc q)) (rules_in R) ≡ r
          → pick (p and r) (walk_from R v h (suc (rules_in R + fields_of R)) (v.start q) (v.start (suc q)) 0 0) broken_walk ≡ ran x u → Walks x u
      go false r is_p is_r is = never (cc)
      go true false is_p is_r is = never (cc)
      go true true is_p is_r is =
          record { some = ltb-true (v.start q) (v.start (suc q)) is_p; within = leb-true (v.start (suc q)) (rules_in R) is_r; walks = is }

  pub visit_few : rules_in R ≤ most_rules → fields_of R ≤ 8 → (x : Option ℕ) (u : ℕ) → visit_of R v h q ≡ ran x u → u ≤ 18
  visit_few few_rules few_fields x u is =
      let w = visited_walks x u is in
      let few : v.start (suc q) ≤ most_rules = omega arith in
      walk_few_18 R v h (suc (rules_in R + fields_of R)) (v.start q) (v.start (suc q)) w.some few few_fields x u w.walks

  -- where a callee told what the visit is
  pub told_few : rules_in R ≤ most_rules → fields_of R ≤ 8 → (w : Walked) (x : Option ℕ) (u : ℕ) → w ≡ visit_of R v h q → w ≡ ran x u → u ≤ 18
  told_few few_rules few_fields w x u is-w is = visit_few few_rules few_fields x u (sym is-w ∙ is)

-- as the code works it out: s and e are its start and the next, as they were read
module _ (R : Rules) (v : View) (h : List ℕ) (n q : ℕ) (is_n : n ≡ rules_in R) {s e : ℕ} (is-s : s ≡ v.start q) (is-e : e ≡ v.start (q + 1)) where
  ends : e ≡ v.start (suc q)
  ends = rw (add-one q) at is-e

  pub by-none : e ≤ s → visit_of R v h q ≡ broken_walk
  by-none le = visit_none R v h q (rw (is-s, ends) at le)

  module _ (some : s < e) where
    starts_so : v.start q < v.start (suc q)
    starts_so = rw (is-s, ends) at some

    pub by_past : n < e → visit_of R v h q ≡ broken_walk
    by_past past = visit_past R v h q starts_so (rw (is_n, ends) at past)

    module _ (within : e ≤ n) where
      -- the group that the walk begins with, with few tests made
      pub by_going : {d t : ℕ} → t ≤ 18 → n ≤ most_rules → d ≤ most_fields → Going n d s e 0 t
      by_going few few_rules few_fields = record { in_table = within; in_row = omega arith; few_tests = omega arith }

      -- c is what the walk answered, as one number, and w what it stands for
      pub by_walk : rules_in R ≤ most_rules → fields_of R ≤ most_fields
          → (c : ℕ) → ((k : ℕ) → (e - s) + (fields_of R - 0) < k → c ≡ packed (walk_from R v h k s e 0 0))
          → (w : Walked) → w ≡ unpacked c → w ≡ visit_of R v h q
      by_walk few_rules few_fields c walked w is-w =
          let k = suc (rules_in R + fields_of R) in
          let in-rules : v.start (suc q) ≤ rules_in R = rw (is_n, ends) at within in
          let few : e ≤ most_rules = omega (arith, is_n) in
          let small : Small (walk_from R v h k s e 0 0) =
          record {
            few_tests = λ x u is. let le-18 : u ≤ 18 = walk_few_18 R v h k s e some few few_fields x u is in omega arith;
            few_rules = λ i u is. let lt : i < rules_in R = (walk_fits R v h k s e 0 0 i u is).rule in omega arith;
          }
          in
          is-w
          ∙ ap unpacked (walked k (omega (arith, is_n)))
          ∙ packed_back (walk_from R v h k s e 0 0) small
          ∙ rw (is-s, ends) (sym (visit_walks R v h q starts_so in-rules))
