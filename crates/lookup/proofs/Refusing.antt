-- When a lookup refuses, and with what: one of 1, 2, 3 and 5, with place 0, or 6 for the opening or for a partition; never 4. A list and a
-- table that open are refused exactly where some partition is not skipped and broken (`Brokens.antt`), and by the first that is.
--     RefusedBy, refused-by           the five rows that it may give
--     lookup_broken, lookup_fine      of a table that opens: exactly where some partition is not skipped and broken
--     FirstBroken, lookup_6_iff       the partition at which it is
-- Assumes nothing.
use Prim.Native.Nat.{ℕ, zero, suc, ◌+◌, ◌%◌, ◌*◌, ◌≤◌, ◌<◌}
use mathlib.Core.Bool.{Bool, true, false, not}
use mathlib.Core.List.{List}
use mathlib.Core.Logic.{◌↔◌}
use mathlib.Core.Path.{◌≡◌, refl, sym, ap, ◌∙◌, subst}
use native.Mathlib.Omega.{arith}
use lib.ListN.{length}
use lib.Dec.{ltb, eqb}
use borrow.Author.Tests.{ltb-true, ltb-false}
use Rattle.std.specs.Prelude.{Option, Ok, Err, Result}
use Rattle.ranges.specs.Numbers.{pick, ◌or◌}
use Rattle.ranges.specs.Refusals.{Refusal, Fault, none, refusing, refused, or_else}
use Rattle.ranges.specs.declared.refusal.Cause.TheVariants.{BadFields, BadLength, TooManyRules, BadTableLength, BrokenTable}
use Rattle.ranges.proofs.Numbers.{never}
use Rattle.lists.specs.Limits.{most_rules}
use Rattle.lists.specs.Rules.{Rules, fields_of, rules_in}
use Rattle.lists.specs.Edges.{edge_of}
use Rattle.lists.specs.Faults.{shape_fault}
use Rattle.tables.specs.Layout.{View, table_length}
use Rattle.tables.specs.Opening.{opening, view_of, open_fault}
use Rattle.lookup.specs.Walk.{Walked, ran, broken_walk}
use Rattle.lookup.specs.Lookup.{turn_of, answer_of, lookup_from, search_of, lookup_of, matched, unmatched}
use Rattle.lookup.specs.Bounds.{candidate, turn_made, is_skipped, refuses}
use Rattle.lookup.specs.declared.lookup.Looked.{Looked}
use Rattle.lookup.proofs.Turns.{turn_skipped, turn_visits, onward, from_none, made_broken, made_on}
use Rattle.lookup.proofs.Lookups.{lookup_searches}
use Rattle.lookup.proofs.Brokens.{BrokenPart, visit_broken_iff}

-- ---- with what
-- 01, Refusal numbers: lookup: 1, 2, 3, 5, 6, each with place 0
pub data RefusedBy : Refusal → Type 0 where
  by_fields : RefusedBy (refusing BadFields 0 0)
  by_length : RefusedBy (refusing BadLength 0 0)
  by_rules : RefusedBy (refusing TooManyRules 0 0)
  by_table_length : RefusedBy (refusing BadTableLength 0 0)
  by_broken_table : RefusedBy (refusing BrokenTable 0 0)

-- the opening's refusal by its tests: d is 0, d is past 8, the length is a multiple, more rules than 1,024, the table's length is right, the table opens
abbrev fault : Bool → Bool → Bool → Bool → Bool → Bool → Fault
fault a b c e t o =
    or_else (pick (a or b) (refused BadFields) (pick (not c) (refused BadLength) (pick e (refused TooManyRules) none)))
    (or_else (pick t none (refused BadTableLength)) (pick o none (refused BrokenTable)))

-- the opening's refusal, where there is one
open_by : (R : Rules) (T : List ℕ) {x : Refusal} → open_fault R T ≡ Err x → RefusedBy x
unfolding open_fault shape_fault
open_by R T {x} =
    go (ltb (fields_of R) 1) (ltb 8 (fields_of R)) (eqb (length R.numbers % (fields_of R * 2)) 0) (ltb most_rules (rules_in R))
    (eqb (length T) (table_length (rules_in R) (fields_of R))) (opening (rules_in R) (fields_of R) (view_of R T))
  where
    by : {y : Refusal} → RefusedBy y → ◌≡◌ {A = Fault} (Err y) (Err x) → RefusedBy x
    by {y} row is = let same : y ≡ x = cc in subst RefusedBy same row

    go : (a b c e t o : Bool) → fault a b c e t o ≡ Err x → RefusedBy x
    go true b c e t o is = by by_fields is
    go false true c e t o is = by by_fields is
    go false false false e t o is = by by_length is
    go false false true true t o is = by by_rules is
    go false false true false false o is = by by_table_length is
    go false false true false true false is = by by_broken_table is
    go false false true false true true is = never (cc)

-- ---- a search that was refused, whatever a turn is
module _ (R : Rules) (h : List ℕ) (turn : ℕ → ℕ → Walked) where
  answer_not : (best t : ℕ) (x : Refusal) → answer_of R h best t ≡ Err x → ⊥
  answer_not best t x = go (ltb best (rules_in R))
    where
      go : (p : Bool) → pick p (matched best t (edge_of R h best)) (unmatched t) ≡ Err x → ⊥
      go true is = never (cc)
      go false is = never (cc)

  -- the turn of partition q as it is made
  abbrev made : ℕ → Walked
  made = turn_made (rules_in R) turn

  -- a search of k partitions from q on that was refused: with 6, at the first of them whose turn is broken
  record Stopped (k q : ℕ) (x : Refusal) : Type 0 where
    by_6 : x ≡ refusing BrokenTable 0 0
    part : ℕ
    from : q ≤ part
    to : part < q + k
    broken : made part ≡ broken_walk
    before : (p : ℕ) → q ≤ p → p < part → made p ≡ broken_walk → ⊥

  -- where partition q was not broken, one that is and is not before it comes after it
  broken_later : (p q : ℕ) (y : Option ℕ) (u : ℕ) → made q ≡ ran y u → made p ≡ broken_walk → q ≤ p → q < p
  broken_later p q y u at is a = go (ltb q p) refl
    where
      go : (c : Bool) → ltb q p ≡ c → q < p
      go true e = ltb-true q p e
      go false e =
          let is_q : p ≡ q = omega (arith, ltb-false q p e) in
          let both : broken_walk ≡ ran y u = sym is ∙ ap made is_q ∙ at in
          never (cc)

  -- one partition more, which was not broken
  stopped_later : (k q : ℕ) (x : Refusal) (y : Option ℕ) (u : ℕ) → made q ≡ ran y u → Stopped k (suc q) x → Stopped (suc k) q x
  stopped_later k q x y u at later =
      record {
        by_6 = later.by_6;
        part = later.part;
        from = omega (arith, later.from);
        to = omega (arith, later.to);
        broken = later.broken;
        before = λ p a b is. later.before p (broken_later p q y u at is a) b is;
      }

  from_stopped : (k q t : ℕ) (x : Refusal) → onward R h turn k q t ≡ Err x → Stopped k q x
  from_stopped zero q t x is = absurd (answer_not (candidate (rules_in R) turn q) t x (sym (from_none R h turn q (candidate (rules_in R) turn q) t) ∙ is))
  from_stopped (suc k) q t x is = go (made q) refl (from_stopped k)
    where
      go : (w : Walked) → made q ≡ w → ((q t : ℕ) (x : Refusal) → onward R h turn k q t ≡ Err x → Stopped k q x) → Stopped (suc k) q x
      go (Err b) at rest =
          let is_x = sym (made_broken R h turn k q t at) ∙ is in
          record { by_6 = cc; part = q; from = omega arith; to = omega arith; broken = at; before = λ p a b. absurd (omega arith) }
      go (Ok y) at rest =
          stopped_later k q x y.found y.tests at (rest (suc q) (t + y.tests) x (sym (made_on R h turn k q t y.found y.tests at) ∙ is))

  search_stopped : (b : ℕ) (x : Refusal) → lookup_from R h turn b 0 (rules_in R) 0 ≡ Err x → Stopped b 0 x
  unfolding candidate
  search_stopped b x is = from_stopped b 0 0 x is

  -- the other way round: a turn that is broken refuses the search
  from_refused : (k q t p : ℕ) → q ≤ p → p < q + k → made p ≡ broken_walk → onward R h turn k q t ≡ refused BrokenTable
  from_refused zero q t p a b is = absurd (omega arith)
  from_refused (suc k) q t p a b is = go (made q) refl (from_refused k)
    where
      go : (w : Walked) → made q ≡ w → ((q t p : ℕ) → q ≤ p → p < q + k → made p ≡ broken_walk → onward R h turn k q t ≡ refused BrokenTable)
          → onward R h turn (suc k) q t ≡ refused BrokenTable
      go (Err b) at rest = made_broken R h turn k q t at
      go (Ok x) at rest =
          made_on R h turn k q t x.found x.tests at ∙ rest (suc q) (t + x.tests) p (broken_later p q x.found x.tests at is a) (omega arith) is

  search_refused : (b p : ℕ) → p < b → made p ≡ broken_walk → lookup_from R h turn b 0 (rules_in R) 0 ≡ refused BrokenTable
  unfolding candidate
  search_refused b p lt is = from_refused b 0 0 p (omega arith) (omega arith) is

pub refused-by : (R : Rules) (T h : List ℕ) (x : Refusal) → lookup_of R T h ≡ Err x → RefusedBy x
unfolding lookup_of
refused-by R T h x = go (open_fault R T) refl
  where
    go : (y : Fault) → open_fault R T ≡ y → or_else y (search_of R (view_of R T) h) ≡ Err x → RefusedBy x
    go (Ok u) e is =
        let stopped = search_stopped R h (turn_of R (view_of R T) h) (view_of R T).b x is in
        rw stopped.by_6 by_broken_table
    go (Err y) e is =
        let same : y ≡ x = cc in
        open_by R T (e ∙ ap Err same)

-- ---- when
-- some partition is not skipped and broken, and none before it
pub record FirstBroken (R : Rules) (v : View) (h : List ℕ) : Type 0 where
  pub part : ℕ
  pub inside : part < v.b
  pub visited : is_skipped R v h part ≡ false
  pub broken : BrokenPart R v h part
  pub before : (p : ℕ) → p < part → is_skipped R v h p ≡ false → BrokenPart R v h p → ⊥

-- a turn is broken exactly where the partition is not skipped and is broken
turn_broken_iff : (R : Rules) (v : View) (h : List ℕ) (q : ℕ)
    → (turn_made (rules_in R) (turn_of R v h) q ≡ broken_walk) ↔ ((is_skipped R v h q ≡ false) × BrokenPart R v h q)
turn_broken_iff R v h q = (to (is_skipped R v h q) refl, λ b. turn_visits R v h best q b.0 ∙ (visit_broken_iff R v h q).1 b.1)
  where
    best : ℕ
    best = candidate (rules_in R) (turn_of R v h) q

    to : (s : Bool) → is_skipped R v h q ≡ s → turn_of R v h best q ≡ broken_walk → (is_skipped R v h q ≡ false) × BrokenPart R v h q
    to true e is = let miss = sym (turn_skipped R v h best q e) ∙ is in never (cc)
    to false e is = (e, (visit_broken_iff R v h q).0 (sym (turn_visits R v h best q e) ∙ is))

-- of a table that opens
module _ (R : Rules) (T h : List ℕ) (opens : open_fault R T ≡ none) where
  -- a partition that is not skipped and is broken refuses the whole call with 6
  pub lookup_broken : (q : ℕ) → q < (view_of R T).b → is_skipped R (view_of R T) h q ≡ false → BrokenPart R (view_of R T) h q
      → lookup_of R T h ≡ refused BrokenTable
  lookup_broken q lt visited broken =
      lookup_searches R T h opens
      ∙ search_refused R h (turn_of R (view_of R T) h) (view_of R T).b q lt ((turn_broken_iff R (view_of R T) h q).1 (visited, broken))

  -- a refusal names the first of them
  lookup_stopped : (x : Refusal) → lookup_of R T h ≡ Err x → FirstBroken R (view_of R T) h
  lookup_stopped x is =
      let v = view_of R T in
      let stopped = search_stopped R h (turn_of R v h) v.b x (sym (lookup_searches R T h opens) ∙ is) in
      let here = (turn_broken_iff R v h stopped.part).0 stopped.broken in
      record {
        part = stopped.part;
        inside = omega (arith, stopped.to);
        visited = here.0;
        broken = here.1;
        before = λ p lt visited broken. stopped.before p (omega arith) lt ((turn_broken_iff R v h p).1 (visited, broken));
      }

  pub lookup_6_iff : (lookup_of R T h ≡ refused BrokenTable) ↔ FirstBroken R (view_of R T) h
  lookup_6_iff = (lookup_stopped (refusing BrokenTable 0 0), λ first. lookup_broken first.part first.inside first.visited first.broken)

  -- and nothing else refuses
  pub lookup_fine : ((q : ℕ) → q < (view_of R T).b → is_skipped R (view_of R T) h q ≡ false → BrokenPart R (view_of R T) h q → ⊥)
      → refuses (lookup_of R T h) ≡ false
  lookup_fine fine = go (lookup_of R T h) refl
    where
      go : (w : Result Looked Refusal) → lookup_of R T h ≡ w → refuses w ≡ false
      go (Ok y) is = refl
      go (Err x) is =
          let first = lookup_stopped x is in
          absurd (fine first.part first.inside first.visited first.broken)
