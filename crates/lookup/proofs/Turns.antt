-- Laws of all partitions in order (`specs/Lookup.antt`): what a turn is, and the fold over them, whatever a turn is.
--     skips-not, turn_skipped, turn_visits     a partition is skipped or visited
--     from_none, from_broken, from_on          no partition left; a broken one; one that was not
--     onward, made_broken, made_on             the same, with the candidate of those before
--     Visited, visited-..                      what `visit_all` keeps at its loop's head, its turn and its ways out
--     ends_nothing, ends_match                 so that the ways out give the search's answer
-- Assumes nothing.
use Prim.Native.Nat.{ℕ, suc, ◌+◌, ◌-◌, ◌*◌, min, ◌≤◌, ◌<◌}
use mathlib.Core.Bool.{Bool, true, false}
use mathlib.Core.List.{List}
use mathlib.Core.Path.{◌≡◌, refl, sym, ap, ◌∙◌}
use native.Mathlib.Omega.{arith}
use native.Mathlib.Nat.{add-zero}
use native.Mathlib.Numerals.{add-one}
use lib.Dec.{ltb}
use borrow.Author.Tests.{lt-ltb, le-ltb, ltb-true}
use Rattle.std.specs.Prelude.{◌↔◌, Option, Some, None, unwrap_or, IsTrue, IsSomeAnd, Result}
use Rattle.ranges.specs.Numbers.{◌and◌}
use Rattle.ranges.specs.Refusals.{Refusal, refused}
use Rattle.ranges.specs.declared.refusal.Cause.TheVariants.{BrokenTable}
use Rattle.ranges.proofs.Numbers.{never}
use Rattle.lists.specs.Limits.{most_rules}
use Rattle.lists.specs.Rules.{Rules, Shaped, fields_of, rules_in}
use Rattle.lists.specs.Edges.{rule_edge}
use Rattle.lists.proofs.Edges.{edge_listed}
use Rattle.tables.specs.Layout.{View}
use Rattle.lookup.specs.Walk.{Walked, ran, broken_walk}
use Rattle.lookup.specs.Lookup.{skips, turn_of, visit_of, better, sooner, answer_of, lookup_from, search_of, matched, unmatched}
use Rattle.lookup.specs.Bounds.{candidate, turn_made}
use Rattle.lookup.specs.declared.lookup.Looked.{Looked}
use Rattle.lookup.proofs.Visits.{visit_few}
use Rattle.lookup.proofs.Returned.{visit_fits}

-- ---- a turn
-- no candidate
pub skips-not : (n : ℕ) (least : ℕ → ℕ) (best q : ℕ) → n ≤ best → false ≡ skips n least best q
skips-not n least best q none = rw (le-ltb best n none)

module _ (R : Rules) (v : View) (h : List ℕ) (best q : ℕ) where
  pub turn_skipped : skips (rules_in R) v.least best q ≡ true → turn_of R v h best q ≡ ran None 0
  unfolding turn_of
  turn_skipped e = rw e

  pub turn_visits : skips (rules_in R) v.least best q ≡ false → turn_of R v h best q ≡ visit_of R v h q
  unfolding turn_of
  turn_visits e = rw e

-- ---- all partitions in order, whatever a turn is
module _ (R : Rules) (h : List ℕ) (turn : ℕ → ℕ → Walked) where
  pub from_none : (q best t : ℕ) → lookup_from R h turn 0 q best t ≡ answer_of R h best t
  unfolding lookup_from
  from_none q best t = refl

  module _ (k q best t : ℕ) where
    pub from_broken : turn best q ≡ broken_walk → lookup_from R h turn (suc k) q best t ≡ refused BrokenTable
    unfolding lookup_from
    from_broken is = rw is

    pub from_on : (x : Option ℕ) (u : ℕ) → turn best q ≡ ran x u → lookup_from R h turn (suc k) q best t ≡ lookup_from R h turn k (suc q) (better best x) (t + u)
    unfolding lookup_from
    from_on x u is = rw is

  -- the same, with the candidate of the partitions before: those from q on
  abbrev pub onward : ℕ → ℕ → ℕ → Result Looked Refusal
  onward k q t = lookup_from R h turn k q (candidate (rules_in R) turn q) t

  module _ (k q t : ℕ) where
    pub made_broken : turn_made (rules_in R) turn q ≡ broken_walk → onward (suc k) q t ≡ refused BrokenTable
    made_broken = from_broken k q (candidate (rules_in R) turn q) t

    pub made_on : (x : Option ℕ) (u : ℕ) → turn_made (rules_in R) turn q ≡ ran x u → onward (suc k) q t ≡ onward k (suc q) (t + u)
    unfolding candidate
    made_on x u is = from_on k q (candidate (rules_in R) turn q) t x u is ∙ rw is

-- ---- at the loop's head: partitions 0 to before q, of b, had their turn, and what is left decides the answer; n stands for no candidate
pub record Visited (R : Rules) (v : View) (h : List ℕ) (n b q : ℕ) (best : Option ℕ) (t : ℕ) : Type 0 where
  pub rules : n ≡ rules_in R
  pub in_order : q ≤ b
  pub few_tests : t ≤ q * 18
  pub of_list : (i : ℕ) → best ≡ Some i → i < n
  pub rest : (k : ℕ) → q + k ≡ b → lookup_from R h (turn_of R v h) b 0 n 0 ≡ lookup_from R h (turn_of R v h) k q (unwrap_or best n) t

pub visited_none : (R : Rules) (v : View) (h : List ℕ) (n b : ℕ) → n ≡ rules_in R → Visited R v h n b 0 None 0
visited_none R v h n b is_n =
    record {
      rules = is_n;
      in_order = omega arith;
      few_tests = omega arith;
      of_list = λ i is. never (cc);
      rest = λ k is. let is_b : b ≡ k = omega arith in ap (λ j. lookup_from R h (turn_of R v h) j 0 n 0) is_b;
    }

-- n and b are what was read
pub searched : (R : Rules) (v : View) (h : List ℕ) {n b : ℕ} → n ≡ rules_in R → b ≡ v.b → lookup_from R h (turn_of R v h) b 0 n 0 ≡ search_of R v h
searched R v h is_n is_b = rw (is_n, is_b)

-- of two candidates of a list of n rules: the smaller one is of that list, and it is the smaller one where n stands for none
sooner_listed : (n : ℕ) (best found : Option ℕ) → ((i : ℕ) → best ≡ Some i → i < n) → ((i : ℕ) → found ≡ Some i → i < n)
    → (i : ℕ) → sooner best found ≡ Some i → i < n
sooner_listed n None found b f i is = f i is
sooner_listed n (Some j) None b f i is = b i is
sooner_listed n (Some j) (Some k) b f i is = let is_i : min j k ≡ i = cc in omega (arith, b j refl)

sooner_better : (n : ℕ) (best found : Option ℕ) → ((i : ℕ) → found ≡ Some i → i < n) → better (unwrap_or best n) found ≡ unwrap_or (sooner best found) n
sooner_better n None None f = refl
sooner_better n None (Some k) f = omega (arith, f k refl)
sooner_better n (Some j) None f = refl
sooner_better n (Some j) (Some k) f = refl

-- whether a partition is skipped, as a callee told: x is the number that is stored for it
skips_told : (n m x : ℕ) (best : Option ℕ) (s : Bool) → n ≡ m → ((i : ℕ) → best ≡ Some i → i < n) → (IsTrue s ↔ IsSomeAnd best (λ i. i < x))
    → (ltb (unwrap_or best n) m and ltb (unwrap_or best n) x) ≡ s
skips_told n m x None true is_n b told = absurd (told.0 refl)
skips_told n m x None false is_n b told = rw (le-ltb n m (omega arith))
skips_told n m x (Some i) true is_n b told = let less : i < m = omega (arith, b i refl) in rw (lt-ltb i m less, lt-ltb i x (told.0 refl))
skips_told n m x (Some i) false is_n b told = let less : i < m = omega (arith, b i refl) in rw (lt-ltb i m less) (go (ltb i x) refl)
  where
    go : (c : Bool) → ltb i x ≡ c → c ≡ false
    go true e = sym (told.1 (ltb-true i x e))
    go false e = refl

module _ {R : Rules} {v : View} {h : List ℕ} {n b q : ℕ} {best : Option ℕ} {t : ℕ} (seen : Visited R v h n b q best t) where
  -- one turn more
  visited_more : q < b → (x : Option ℕ) (u : ℕ) → turn_of R v h (unwrap_or best n) q ≡ ran x u → u ≤ 18 → ((i : ℕ) → x ≡ Some i → i < n)
      → Visited R v h n b (q + 1) (sooner best x) (t + u)
  visited_more lt x u is few listed =
      record {
        rules = seen.rules;
        in_order = omega arith;
        few_tests = omega (arith, few, seen.few_tests);
        of_list = sooner_listed n best x seen.of_list listed;
        rest = λ k is_b.
            seen.rest (suc k) (omega arith)
            ∙ from_on R h (turn_of R v h) k q (unwrap_or best n) t x u is
            ∙ ap (λ c. lookup_from R h (turn_of R v h) k (suc q) c (t + u)) (sooner_better n best x listed)
            ∙ ap (λ j. lookup_from R h (turn_of R v h) k j (unwrap_or (sooner best x) n) (t + u)) (sym (add-one q));
      }

  -- s is whether partition q is skipped, as a callee told
  module _ {s : Bool} (told : IsTrue s ↔ IsSomeAnd best (λ i. i < v.least q)) where
    skips_is : skips (rules_in R) v.least (unwrap_or best n) q ≡ s
    skips_is = skips_told n (rules_in R) (v.least q) best s seen.rules seen.of_list told

    visits : s ≡ false → turn_of R v h (unwrap_or best n) q ≡ visit_of R v h q
    visits e = turn_visits R v h (unwrap_or best n) q (skips_is ∙ e)

  -- it is: nothing is tested
  pub visited_skipped : q < b → (IsTrue true ↔ IsSomeAnd best (λ i. i < v.least q)) → Visited R v h n b (q + 1) best t
  visited_skipped lt told =
      let same : sooner best None ≡ best = sooner-none best in
      rw (add-zero t, same) at (visited_more lt None 0 (turn_skipped R v h (unwrap_or best n) q (skips_is told)) (omega arith) (λ i is. never (cc)))
    where
      sooner-none : (c : Option ℕ) → sooner c None ≡ c
      sooner-none None = refl
      sooner-none (Some i) = refl

  module _ (lt : q < b) (told : IsTrue false ↔ IsSomeAnd best (λ i. i < v.least q)) where
    -- it is not, and broken
    pub visited_broken : broken_walk ≡ visit_of R v h q → lookup_from R h (turn_of R v h) b 0 n 0 ≡ refused BrokenTable
    visited_broken is =
        seen.rest (suc (b - q - 1)) (omega arith)
        ∙ from_broken R h (turn_of R v h) (b - q - 1) q (unwrap_or best n) t (visits told refl ∙ sym is)

    -- or was walked through
    pub visited_on : rules_in R ≤ most_rules → fields_of R ≤ 8 → (x : Option ℕ) (u : ℕ) → ran x u ≡ visit_of R v h q → Visited R v h n b (q + 1) (sooner best x) (t + u)
    visited_on few_rules few_fields x u is =
        visited_more lt x u (visits told refl ∙ sym is) (visit_few R v h q few_rules few_fields x u (sym is))
        (λ i is_x. omega (arith, seen.rules, (visit_fits R v h q i u (sym is ∙ ap (λ y. ran y u) is_x)).rule))

  -- all had their turn
  visited_all : b ≤ q → lookup_from R h (turn_of R v h) b 0 n 0 ≡ answer_of R h (unwrap_or best n) t
  visited_all le = seen.rest 0 (omega (arith, seen.in_order)) ∙ from_none R h (turn_of R v h) q (unwrap_or best n) t

  -- a match, with whether it has a field at an end as a callee told; or none
  pub visited_match : Shaped R → b ≤ q → (i : ℕ) → best ≡ Some i → (e : Bool) → e ≡ rule_edge R h i → lookup_from R h (turn_of R v h) b 0 n 0 ≡ matched i t e
  visited_match shape le i is e is-e =
      let under : i < rules_in R = omega (arith, seen.rules, seen.of_list i is) in
      visited_all le ∙ rw (is, lt-ltb i (rules_in R) under, is-e, edge_listed R h i shape under)

  pub visited_nothing : b ≤ q → best ≡ None → lookup_from R h (turn_of R v h) b 0 n 0 ≡ unmatched t
  visited_nothing le is =
      let over : rules_in R ≤ n = omega (arith, seen.rules) in
      visited_all le ∙ rw (is, le-ltb n (rules_in R) over)

  -- so that these are what the search gives, of b partitions, as read
  module _ (is_b : b ≡ v.b) where
    pub ends_nothing : b ≤ q → best ≡ None → unmatched t ≡ search_of R v h
    ends_nothing le is = sym (visited_nothing le is) ∙ searched R v h seen.rules is_b

    pub ends_match : Shaped R → (i : ℕ) (e : Bool) → e ≡ rule_edge R h i → b ≤ q → best ≡ Some i → matched i t e ≡ search_of R v h
    ends_match shape i e is-e le is = sym (visited_match shape le i is e is-e) ∙ searched R v h seen.rules is_b
