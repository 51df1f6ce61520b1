-- Laws of the parts of a line's numbers (`specs/Parts.antt`).
--     run_told, narrow_told, exact_told, list_told, table_told, tables_told       what an end tells
--     narrow_asked                              of a run of 16-bit numbers, which is what a call asks
--     LastTo, last_told                         such a run that is the last part
--     tables_cut, tables_are                    where a list and a table end, as the code finds them
--     table_few                                 such a table has no more numbers than it may
--     list_over, tables_over                    too many numbers
-- Assumes nothing.
use Prim.Native.Nat.{ℕ, ◌+◌, ◌≤◌, ◌<◌}
use mathlib.Core.Bool.{Bool, true, false}
use mathlib.Core.List.{List}
use mathlib.Core.Path.{◌≡◌, refl, sym, ap, ◌∙◌}
use native.Mathlib.Omega.{arith}
use borrow.Author.Tests.{ltb-false, eqb-true}
use lib.ListN.{length, get_or, length-take, length-drop}
use lib.Dec.{ltb, leb, eqb}
use Rattle.std.specs.Prelude.{Option, Some, None}
use Rattle.std.specs.Bool.{then_some}
use Rattle.ranges.specs.Numbers.{pick}
use Rattle.ranges.proofs.Numbers.{never}
use Rattle.words.specs.Limits.{list_most, table_most}
use Rattle.words.specs.Parts.{from_to, run_end, RunTo, exactly, list_end, on_end, all_narrow, narrow_end, NarrowTo, Narrow, table_ends, TableTo}

-- ---- where a run ends
pub run_told : (most : ℕ) (ns : List ℕ) (at : ℕ) {e : ℕ} → run_end most ns at ≡ Some e → RunTo most ns at e
unfolding run_end
run_told most ns at {e} = go (leb (length ns) at) (ltb most (get_or ns at 0)) (ltb (length ns) (at + 1 + get_or ns at 0)) refl refl refl
  where
    go : (s t u : Bool) → leb (length ns) at ≡ s → ltb most (get_or ns at 0) ≡ t → ltb (length ns) (at + 1 + get_or ns at 0) ≡ u
        → pick s None (pick t None (pick u None (Some (at + 1 + get_or ns at 0)))) ≡ Some e → RunTo most ns at e
    go true t u p q r is = never (cc)
    go false true u p q r is = never (cc)
    go false false true p q r is = never (cc)
    go false false false p q r is =
        let same : at + 1 + get_or ns at 0 ≡ e = cc in
        let few = ltb-false most (get_or ns at 0) q in
        let fits = ltb-false (length ns) (at + 1 + get_or ns at 0) r in
        record { begun = omega arith; within = omega arith; few = omega arith }

-- ---- a run of 16-bit numbers
pub narrow_told : (most : ℕ) (ns : List ℕ) (at : ℕ) {e : ℕ} → narrow_end most ns at ≡ Some e → NarrowTo most ns at e
unfolding narrow_end
narrow_told most ns at {e} = go (run_end most ns at) refl
  where
    test : {x : ℕ} → RunTo most ns at x → (t : Bool) → all_narrow (from_to (at + 1) x ns) ≡ t → pick t (Some x) None ≡ Some e → NarrowTo most ns at e
    test {x} run true fine is =
        let same : x ≡ e = cc in
        rw (← same) (record { run = run; narrow = fine })
    test run false fine is = never (cc)

    go : (s : Option ℕ) → run_end most ns at ≡ s → on_end s (λ x. pick (all_narrow (from_to (at + 1) x ns)) (Some x) None) None ≡ Some e → NarrowTo most ns at e
    go (Some x) ran is = test (run_told most ns at ran) (all_narrow (from_to (at + 1) x ns)) refl is
    go None ran is = never (cc)

-- which is what a call asks of such a run
pub narrow_asked : {most : ℕ} {ns : List ℕ} {at e : ℕ} → NarrowTo most ns at e → Narrow most (from_to (at + 1) e ns)
narrow_asked h = record { few = simp (length-take, length-drop) (omega (arith, h.run.few)); narrow = h.narrow }

-- ---- what follows it
module _ (ns : List ℕ) (more : ℕ) (end : Option ℕ) where
  pub exact_told : {e : ℕ} → exactly ns more end ≡ Some e → (end ≡ Some e) × (length ns ≡ e + more)
  exact_told {e} = go end refl
    where
      test : {x : ℕ} → end ≡ Some x → (t : Bool) → eqb (length ns) (x + more) ≡ t → pick t (Some x) None ≡ Some e → (end ≡ Some e) × (length ns ≡ e + more)
      test {x} is true p told =
          let same : x ≡ e = cc in
          (is ∙ ap Some same, eqb-true (length ns) (x + more) p ∙ ap (λ k. k + more) same)
      test {x} is false p told = never (cc)

      go : (x : Option ℕ) → end ≡ x → exactly ns more x ≡ Some e → (end ≡ Some e) × (length ns ≡ e + more)
      go (Some x) is told = test is (eqb (length ns) (x + more)) refl told
      go None is told = never (cc)

-- what the end of a run of 16-bit numbers tells that is the last part
pub record LastTo (most : ℕ) (ns : List ℕ) (at e : ℕ) : Type 0 where
  pub begun : at + 1 ≤ e
  pub few : e ≤ at + 1 + most
  pub follow : length ns ≡ e
  pub asked : Narrow most (from_to (at + 1) e ns)

pub last_told : (most : ℕ) (ns : List ℕ) (at : ℕ) {e : ℕ} → exactly ns 0 (narrow_end most ns at) ≡ Some e → LastTo most ns at e
last_told most ns at {e} is =
    let whole = exact_told ns 0 (narrow_end most ns at) is in
    let told = narrow_told most ns at whole.0 in
    record { begun = told.run.begun; few = told.run.few; follow = omega (arith, whole.1); asked = narrow_asked told }

-- ---- D LIST
-- what the end of a list tells: it stands in the numbers from place 2 on, is not too long, and exactly so many numbers more follow
pub record ListTo (ns : List ℕ) (more e : ℕ) : Type 0 where
  pub is : list_end ns more ≡ Some e
  pub begun : 2 ≤ e
  pub few : e ≤ 2 + list_most
  pub follow : length ns ≡ e + more

pub list_told : (ns : List ℕ) (more : ℕ) {e : ℕ} → list_end ns more ≡ Some e → ListTo ns more e
unfolding list_end
list_told ns more told =
    let whole = exact_told ns more (run_end list_most ns 1) told in
    let run = run_told list_most ns 1 whole.0 in
    record { is = told; begun = run.begun; few = run.few; follow = whole.1 }

-- more numbers than a list and what follows it may have
pub list_over : (ns : List ℕ) (more : ℕ) → 2 + list_most + more < length ns → list_end ns more ≡ None
list_over ns more over = go (list_end ns more) refl
  where
    go : (x : Option ℕ) → list_end ns more ≡ x → list_end ns more ≡ None
    go (Some e) is = let list = list_told ns more is in absurd (omega arith)
    go None is = is

-- ---- D LIST TABLE
-- what the end of a table tells, whose length stands at place e: it is not too long, and exactly so many numbers more follow
pub record TableAt (ns : List ℕ) (more e t : ℕ) : Type 0 where
  pub after : e + 1 ≤ t
  pub few : t ≤ e + 1 + table_most
  pub follow : length ns ≡ t + more

pub table_told : (ns : List ℕ) (more : ℕ) {e t : ℕ} {run end : Option ℕ} → run ≡ run_end table_most ns e → end ≡ exactly ns more run → end ≡ Some t → TableAt ns more e t
table_told ns more {e} {t} {run} {end} ran is at =
    let whole = exact_told ns more run (sym is ∙ at) in
    let told = run_told table_most ns e (sym ran ∙ whole.0) in
    record { after = told.begun; few = told.few; follow = whole.1 }

-- as the code finds them: the list ends at e, and run is where the table would end
module _ (ns : List ℕ) (more : ℕ) {e : ℕ} (at-list : Some e ≡ run_end list_most ns 1) {run : Option ℕ} (ran : run ≡ run_end table_most ns e) where
  -- no table
  pub tables_cut : None ≡ exactly ns more run → None ≡ table_ends ns more
  unfolding table_ends
  tables_cut none = rw (sym at-list, ← ran, sym none)

  -- a table, whose numbers are of 16 bits or not
  pub tables_are : {t : ℕ} → Some t ≡ exactly ns more run → (b : Bool) → b ≡ all_narrow (from_to (e + 1) t ns)
      → then_some {T = ℕ × ℕ} b (e, t) ≡ table_ends ns more
  unfolding table_ends
  tables_are at true narrow = rw (sym at-list, ← ran, sym at, sym narrow)
  tables_are at false wide = rw (sym at-list, ← ran, sym at, sym wide)

-- the ends, where the list ends at x and the table's end is s
abbrev ends_at : List ℕ → ℕ → Option ℕ → Option (ℕ × ℕ)
ends_at ns x s = on_end s (λ y. pick (all_narrow (from_to (x + 1) y ns)) (Some (x, y)) None) None

pub tables_told : (ns : List ℕ) (more : ℕ) {e t : ℕ} → table_ends ns more ≡ Some (e, t) → TableTo ns more e t
unfolding table_ends
tables_told ns more {e} {t} told = go (run_end list_most ns 1) refl told
  where
    last : {x y : ℕ} → RunTo list_most ns 1 x → exactly ns more (run_end table_most ns x) ≡ Some y → (b : Bool) → all_narrow (from_to (x + 1) y ns) ≡ b → pick {A = Option (ℕ × ℕ)} b (Some (x, y)) None ≡ Some (e, t) → TableTo ns more e t
    last {x} {y} list at true narrow is =
        let both : ◌≡◌ {A = ℕ × ℕ} (x, y) (e, t) = cc in
        let table = table_told ns more refl refl at in
        rw (← ap (λ q. q.0) both, ← ap (λ q. q.1) both) (record {
          begun = list.begun;
          few = list.few;
          after = table.after;
          few_table = table.few;
          follow = table.follow;
          narrow = narrow;
        })
    last list at false narrow is = never (cc)

    next : {x : ℕ} → RunTo list_most ns 1 x → (s : Option ℕ) → exactly ns more (run_end table_most ns x) ≡ s → ends_at ns x s ≡ Some (e, t) → TableTo ns more e t
    next {x} list (Some y) at is = last list at (all_narrow (from_to (x + 1) y ns)) refl is
    next list None at is = never (cc)

    go : (s : Option ℕ) → run_end list_most ns 1 ≡ s → on_end s (λ x. ends_at ns x (exactly ns more (run_end table_most ns x))) None ≡ Some (e, t) → TableTo ns more e t
    go (Some x) at is = next (run_told list_most ns 1 at) (exactly ns more (run_end table_most ns x)) refl is
    go None at is = never (cc)

-- such a table has no more numbers than it may
pub table_few : {ns : List ℕ} {more e t : ℕ} → TableTo ns more e t → length (from_to (e + 1) t ns) ≤ table_most
table_few so = simp (length-take, length-drop) (omega (arith, so.few_table))

-- more numbers than a list, a table and what follows them may have
pub tables_over : (ns : List ℕ) (more : ℕ) → 3 + list_most + table_most + more < length ns → table_ends ns more ≡ None
tables_over ns more over = go (table_ends ns more) refl
  where
    go : (x : Option (ℕ × ℕ)) → table_ends ns more ≡ x → table_ends ns more ≡ None
    go (Some p) is =
        let told = tables_told ns more {e = p.0} {t = p.1} is in
        absurd (omega arith)
    go None is = is
