-- Laws of the lookup (`specs/Lookup.antt`): the refusals of the opening, and the search of all partitions of a table that opens.
--     lookup_refused, lookup_searches      the two ways
--     by_search                            the second, as the code works it out
--     by_few, by_ready, by_parts           what the search may rely on
-- Assumes nothing.
use Prim.Native.Nat.{ℕ, ◌≤◌}
use mathlib.Core.List.{List}
use mathlib.Core.Path.{◌≡◌, sym, ◌∙◌}
use native.Mathlib.Omega.{arith}
use Rattle.std.specs.Prelude.{Result, Err}
use Rattle.ranges.specs.Refusals.{Refusal, none}
use Rattle.lists.specs.Limits.{most_rules}
use Rattle.lists.specs.Rules.{Rules, fields_of, rules_in}
use Rattle.tables.specs.Layout.{view}
use Rattle.tables.specs.Opening.{view_of, open_fault}
use Rattle.tables.proofs.Opened.{Opened, opened}
use Rattle.tables.specs.declared.read.Table.{Table}
use Rattle.lookup.specs.Lent.{Ready}
use Rattle.lookup.specs.Lookup.{search_of, lookup_of}
use Rattle.lookup.specs.declared.lookup.Looked.{Looked}

module _ (R : Rules) (T h : List ℕ) where
  pub lookup_refused : {x : Refusal} → open_fault R T ≡ Err x → lookup_of R T h ≡ Err x
  unfolding lookup_of
  lookup_refused e = rw e

  pub lookup_searches : open_fault R T ≡ none → lookup_of R T h ≡ search_of R (view_of R T) h
  unfolding lookup_of
  lookup_searches z = rw z

-- ---- as the code works it out: the opening refused nothing, and the table is lent with room for m rules, the list's
module _ (R : Rules) (T : List ℕ) (opens : none ≡ open_fault R T) where
  pub by_opened : Opened R T
  by_opened = opened R T (sym opens)

  module _ (m : ℕ) (is_m : m ≡ rules_in R) where
    pub by_few : m ≤ most_rules
    by_few = omega (arith, by_opened.shape_stands.few_rules, is_m)

    pub by_parts : (view m (fields_of R) T).b ≤ m
    by_parts = omega (arith, by_opened.few_parts, is_m)

    pub by_search : (h : List ℕ) (w : Result Looked Refusal) → w ≡ search_of R (view m (fields_of R) T) h → w ≡ lookup_of R T h
    by_search h w is = (rw is_m at is) ∙ sym (lookup_searches R T h (sym opens))

  pub by_ready : (t : Table) → t.room ≡ rules_in R → t.d ≡ fields_of R → t.numbers.now ≡ T → Ready R t
  by_ready t room fields numbers =
      record { rules = room; fields = fields; shape_stands = by_opened.shape_stands; sized = rw (room, fields, numbers) by_opened.sized }
