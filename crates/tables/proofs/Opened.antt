-- Laws of the opening (`specs/Opening.antt`): what each test found where nothing is refused, and back.
--     Opened, opened, opened_none     a list and a table that meet none of the opening's refusals
--     open_few                        the number of an opening's refusal is at most 6
-- Assumes nothing.
use Prim.Native.Nat.{ℕ, ◌≤◌}
use mathlib.Core.Bool.{Bool, true, false}
use mathlib.Core.List.{List}
use mathlib.Core.Path.{◌≡◌, refl, sym}
use native.Mathlib.Omega.{arith}
use lib.ListN.{length}
use lib.Dec.{leb, eqb}
use borrow.Author.Tests.{eq-eqb, le-leb, eqb-true, leb-true}
use Rattle.std.specs.Prelude.{Ok, Err}
use Rattle.ranges.specs.Numbers.{pick, ◌and◌}
use Rattle.ranges.specs.Refusals.{Fault, none, refused, or_else, number_in}
use Rattle.ranges.specs.declared.refusal.Cause.TheVariants.{BadTableLength, BrokenTable}
use Rattle.ranges.proofs.Numbers.{and_left, and_right}
use Rattle.ranges.proofs.InARow.{not-none}
use Rattle.lists.specs.Rules.{Rules, fields_of, rules_in, Shaped}
use Rattle.lists.specs.Faults.{shape_fault}
use Rattle.lists.proofs.Faults.{shape_few, shape_stands, shaped}
use Rattle.tables.specs.Layout.{TableFor, table_length}
use Rattle.tables.specs.Opening.{opening, view_of, open_fault}

-- a list and a table that meet none of 1, 2, 3, 5 and the opening's 6
pub record Opened (R : Rules) (T : List ℕ) : Type 0 where
  pub shape_stands : Shaped R
  pub sized : TableFor (rules_in R) (fields_of R) T
  pub rules : (view_of R T).n ≡ rules_in R
  pub fields : (view_of R T).d ≡ fields_of R
  pub few_parts : (view_of R T).b ≤ rules_in R
  pub first_start : (view_of R T).start 0 ≡ 0
  pub last_start : (view_of R T).start (view_of R T).b ≡ rules_in R

-- what an opening says, test by test
opened_view : (R : Rules) (T : List ℕ) → Shaped R → length T ≡ table_length (rules_in R) (fields_of R)
    → opening (rules_in R) (fields_of R) (view_of R T) ≡ true → Opened R T
unfolding opening
opened_view R T s long fine =
    let v = view_of R T in
    let is_n = eqb v.n (rules_in R) in
    let is_d = eqb v.d (fields_of R) in
    let few = leb v.b (rules_in R) in
    let first = eqb (v.start 0) 0 in
    let last = eqb (v.start v.b) (rules_in R) in
    let at-d = and_right is_n (is_d and few and first and last) fine in
    let at-few = and_right is_d (few and first and last) at-d in
    let at_first = and_right few (first and last) at-few in
    record {
      shape_stands = s;
      sized = record { long = long };
      rules = eqb-true v.n (rules_in R) (and_left is_n (is_d and few and first and last) fine);
      fields = eqb-true v.d (fields_of R) (and_left is_d (few and first and last) at-d);
      few_parts = leb-true v.b (rules_in R) (and_left few (first and last) at-few);
      first_start = eqb-true (v.start 0) 0 (and_left first last at_first);
      last_start = eqb-true (v.start v.b) (rules_in R) (and_right first last at_first);
    }

pub opened : (R : Rules) (T : List ℕ) → open_fault R T ≡ none → Opened R T
unfolding open_fault
opened R T = go (shape_fault R) refl (eqb (length T) (table_length (rules_in R) (fields_of R))) refl (opening (rules_in R) (fields_of R) (view_of R T)) refl
  where
    go : (a : Fault) → shape_fault R ≡ a → (e : Bool) → eqb (length T) (table_length (rules_in R) (fields_of R)) ≡ e
        → (g : Bool) → opening (rules_in R) (fields_of R) (view_of R T) ≡ g
        → or_else a (or_else (pick e none (refused BadTableLength)) (pick g none (refused BrokenTable))) ≡ none
        → Opened R T
    go (Err x) p e q g r z = absurd (not-none z)
    go (Ok u) p false q g r z = absurd (not-none z)
    go (Ok u) p true q false r z = absurd (not-none z)
    go (Ok u) p true q true r z =
        opened_view R T (shaped R p) (eqb-true (length T) (table_length (rules_in R) (fields_of R)) q) r

-- a list and a table that open meet none of the opening's refusals
pub opened_none : {R : Rules} {T : List ℕ} → Opened R T → open_fault R T ≡ none
unfolding opening open_fault
opened_none {R} {T} h =
    let v = view_of R T in
    let s = h.shape_stands in
    rw (
      shape_stands R s.some_fields s.few_fields (sym s.whole) s.few_rules,
      eq-eqb (length T) (table_length (rules_in R) (fields_of R)) h.sized.long,
      eq-eqb v.n (rules_in R) h.rules,
      eq-eqb v.d (fields_of R) h.fields,
      le-leb v.b (rules_in R) h.few_parts,
      eq-eqb (v.start 0) 0 h.first_start,
      eq-eqb (v.start v.b) (rules_in R) h.last_start,
    )

-- the opening refuses by 1, 2, 3, 5 and 6 alone
pub open_few : (R : Rules) (T : List ℕ) → number_in (open_fault R T) ≤ 6
unfolding open_fault
open_few R T = go (shape_fault R) (shape_few R) (eqb (length T) (table_length (rules_in R) (fields_of R))) (opening (rules_in R) (fields_of R) (view_of R T))
  where
    go : (a : Fault) → number_in a ≤ 3 → (e g : Bool) → number_in (or_else a (or_else (pick e none (refused BadTableLength)) (pick g none (refused BrokenTable)))) ≤ 6
    go (Err x) few e g = omega arith
    go (Ok u) few false g = omega arith
    go (Ok u) few true true = omega arith
    go (Ok u) few true false = omega arith
