-- Laws of which rules a list has (`specs/Faults.antt`, `in_list`).
--     in_no_fields, in_many_fields, in_by      as the code tests it: d, and then where the rule's last field ends
--     Listed, in_told, in_told_by, in_yes      what yes says, and when it is said
--     listed-rule, shaped_in                   such a rule stands in the list; each rule of a list whose shape stands is one
--     unlisted, if_listed                      a test of a rule that the list has, as the code works it out
-- Assumes nothing.
use Prim.Native.Nat.{ℕ, ◌≤◌, ◌<◌}
use mathlib.Core.Bool.{Bool, true, false, not}
use mathlib.Core.Path.{◌≡◌, refl, sym, ◌∙◌}
use native.Mathlib.Omega.{arith}
use native.Mathlib.Nat.{mul-le-mul_right}
use lib.ListN.{length}
use lib.Dec.{ltb, leb}
use borrow.Author.Tests.{lt-ltb, le-ltb, ltb-true, ltb-false, leb-true, leb-false, not-true}
use Rattle.ranges.specs.Numbers.{◌and◌, ◌or◌}
use Rattle.ranges.proofs.Numbers.{never, and_left, and_right}
use Rattle.lists.specs.Limits.{most_fields}
use Rattle.lists.specs.Rules.{Rules, fields_of, rules_in, offset_of, Shaped}
use Rattle.lists.specs.Asked.{HasRule}
use Rattle.lists.specs.Faults.{in_list}
use Rattle.lists.proofs.Rules.{rules-within, rule-within, rule_past}

-- ---- as the code tests it
module _ (R : Rules) (i : ℕ) where
  pub in_no_fields : fields_of R < 1 → false ≡ in_list R i
  unfolding in_list
  in_no_fields none = rw (lt-ltb (fields_of R) 1 none)

  pub in_many_fields : 1 ≤ fields_of R → most_fields < fields_of R → false ≡ in_list R i
  unfolding in_list
  in_many_fields some many = rw (le-ltb (fields_of R) 1 some, lt-ltb most_fields (fields_of R) many)

-- at is where the rule's last field ends
pub in_by : (R : Rules) (i at : ℕ) → 1 ≤ fields_of R → fields_of R ≤ most_fields → at ≡ offset_of (fields_of R) i (fields_of R)
    → leb at (length R.numbers) ≡ in_list R i
unfolding in_list
in_by R i at some few is-offset = go (leb at (length R.numbers)) refl
  where
    go : (t : Bool) → leb at (length R.numbers) ≡ t → t ≡ not (ltb (fields_of R) 1 or ltb most_fields (fields_of R)) and ltb i (rules_in R)
    go true e =
        rw (le-ltb (fields_of R) 1 some, le-ltb most_fields (fields_of R) few, lt-ltb i (rules_in R) (rule-within R i at some is-offset (leb-true at (length R.numbers) e)))
    go false e =
        rw (le-ltb (fields_of R) 1 some, le-ltb most_fields (fields_of R) few, le-ltb i (rules_in R) (rule_past R i at some is-offset (leb-false at (length R.numbers) e)))

-- ---- what it says
pub record Listed (R : Rules) (i : ℕ) : Type 0 where
  pub some_fields : 1 ≤ fields_of R
  pub few_fields : fields_of R ≤ most_fields
  pub rule : i < rules_in R

neither : (s t : Bool) → s or t ≡ false → (s ≡ false) × (t ≡ false)
neither true t e = never (cc)
neither false t e = (refl, e)

module _ (R : Rules) (i : ℕ) where
  pub in_told : in_list R i ≡ true → Listed R i
  unfolding in_list
  in_told e =
      let few = ltb (fields_of R) 1 in
      let many = ltb most_fields (fields_of R) in
      let fields = neither few many (not-true (few or many) (and_left (not (few or many)) (ltb i (rules_in R)) e)) in
      record {
        some_fields = ltb-false (fields_of R) 1 fields.0;
        few_fields = ltb-false most_fields (fields_of R) fields.1;
        rule = ltb-true i (rules_in R) (and_right (not (few or many)) (ltb i (rules_in R)) e);
      }

  -- t is a callee's answer
  pub in_told_by : {t : Bool} → t ≡ in_list R i → t ≡ true → Listed R i
  in_told_by is-t e = in_told (sym is-t ∙ e)

  pub in_yes : Listed R i → in_list R i ≡ true
  unfolding in_list
  in_yes l = rw (le-ltb (fields_of R) 1 l.some_fields, le-ltb most_fields (fields_of R) l.few_fields) (lt-ltb i (rules_in R) l.rule)

  pub listed-rule : Listed R i → HasRule R i
  unfolding offset_of
  listed-rule l =
      record {
        few_fields = l.few_fields;
        within = omega (arith, mul-le-mul_right (fields_of R) l.rule, rules-within R);
      }

  pub shaped_in : Shaped R → i < rules_in R → in_list R i ≡ true
  shaped_in s rule = in_yes record { some_fields = s.some_fields; few_fields = s.few_fields; rule = rule }

-- ---- a test u of a rule that the list has: t is a callee's answer whether it has the rule, and r what a callee told of the test
module _ (R : Rules) (i : ℕ) {t : Bool} (is-t : t ≡ in_list R i) where
  pub unlisted : (u : Bool) → t ≡ false → false ≡ in_list R i and u
  unlisted u no-rule = rw (← is-t, no-rule)

  pub if_listed : t ≡ true → {r u : Bool} → r ≡ u → r ≡ in_list R i and u
  if_listed rule is_r = rw (← is-t, rule) is_r
