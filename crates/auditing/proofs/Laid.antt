-- A table has the local facts (`specs/Checked.antt`) exactly where some choice of partitions makes it.
--     checked_laid                 a table that has them is that of the run read off it
--     laid_checked                 the table of a choice has them
--     off_back                     the run read off the table of a choice is the choice
--     Made, checked_made, made_checked, made_once      the two as one statement: some choice makes the table; one alone
-- Assumes nothing.
use Prim.Native.Nat.{ℕ, zero, suc, ◌≤◌, ◌<◌}
use mathlib.Core.Bool.{Bool, true, false}
use mathlib.Core.List.{List}
use mathlib.Core.Path.{◌≡◌, refl, sym, ap, ◌∙◌, subst}
use native.Mathlib.Omega.{arith}
use lib.Dec.{ltb, leb}
use lib.ListN.{length}
use lib.Seq.{ext_get_or}
use borrow.Author.Tests.{ltb-true, ltb-false, leb-true, leb-false, eq-eqb, ne_eqb}
use Rattle.ranges.specs.Numbers.{pick}
use Rattle.lists.specs.Rules.{Rules, fields_of, rules_in}
use Rattle.lists.proofs.Sound.{Sound}
use Rattle.tables.specs.Layout.{TableFor, View}
use Rattle.tables.specs.Opening.{view_of}
use Rattle.sorting.specs.FirstFit.{part_of, parts, Choice}
use Rattle.sorting.specs.Table.{place_of, rule_at, start_of, least_of, in_run, run_from, run_to, table_of}
use Rattle.sorting.proofs.Partitions.Parts.{choice_parts}
use Rattle.ordering.proofs.Fields.{alike-under}
use Rattle.sorting.proofs.Sorted.Places.{place_lt, rule_place, place_before}
use Rattle.sorting.proofs.Sorted.Starts.{choice_few, start_past, start_few, start_ascend, in_part, place_part}
use Rattle.sorting.proofs.Sorted.Leasts.{least_past}
use Rattle.sorting.proofs.Sorted.Runs.{run_turn, from_first, from_same, from_new, to_last, to_same, to_new}
use Rattle.sorting.proofs.Sorted.Reading.{table_sized, read-rules, read_fields, read_order, read_start, read-least, read_from, read_to_lem}
use Rattle.sorting.proofs.Sorted.Kept.{seen_parts, seen_start, choice_keeps_promise}
use Rattle.auditing.specs.ReadOff.{part_at, run_off}
use Rattle.auditing.specs.Checked.{joined, Neighbours, Checked}
use Rattle.tables.proofs.SameTable.{ReadAlike, same_table}
use Rattle.auditing.proofs.Checked.{part_is, off_long, off_choice, off-rule, off_start, off-least, off_from, off_to, place_once_in, part_off}

-- ---- checked, so laid
module _ {R : Rules} (T : List ℕ) (sound : Sound R) (h : Checked R (view_of R T)) where
  abbrev v : View
  v = view_of R T

  abbrev read : List ℕ
  read = run_off (rules_in R) (view_of R T)

  start_off : (q : ℕ) → q ≤ rules_in R → start_of R read q ≡ v.start q
  start_off q le = go (leb q v.b) refl
    where
      go : (t : Bool) → leb q v.b ≡ t → start_of R read q ≡ v.start q
      go true e = off_start h sound q (leb-true q v.b e)
      go false e =
          let past : v.b < q = leb-false q v.b e in
          start_past (off_choice h sound) q past ∙ sym (h.zeros q past le)

  least-off : (q : ℕ) → q < rules_in R → least_of R read q ≡ v.least q
  least-off q lt = go (ltb q v.b) refl
    where
      go : (t : Bool) → ltb q v.b ≡ t → least_of R read q ≡ v.least q
      go true e = off-least h sound q (ltb-true q v.b e)
      go false e =
          let past : v.b ≤ q = ltb-false q v.b e in
          least_past (off_choice h sound) q past ∙ sym (h.no_least q past lt)

  read_alike : ReadAlike (rules_in R) (fields_of R) v (view_of R (table_of R read))
  read_alike =
      record {
        rules = h.rules ∙ sym (read-rules R read);
        fields = h.fields ∙ sym (read_fields R read);
        parts = sym (seen_parts (off_choice h sound));
        order = λ p lt. sym (read_order R read p lt ∙ off-rule h sound p lt);
        start = λ q le. sym (read_start R read q le ∙ start_off q le);
        least = λ q lt. sym (read-least R read q lt ∙ least-off q lt);
        from = λ p f lt in_row. sym (read_from R read p f lt in_row ∙ off_from h sound p f lt in_row);
        to = λ p f lt in_row. sym (read_to_lem R read p f lt in_row ∙ off_to h sound p f lt in_row);
      }

  pub checked_laid : TableFor (rules_in R) (fields_of R) T → T ≡ table_of R (run_off (rules_in R) (view_of R T))
  checked_laid sized = same_table T (table_of R read) read_alike sized (table_sized R read)

-- ---- laid, so checked
module _ {R : Rules} {run : List ℕ} {b : ℕ} (sound : Sound R) (choice : Choice R run b) where
  abbrev seen : View
  seen = view_of R (table_of R run)

  -- what neighbours by the view are by the choice
  record Near (q p : ℕ) : Type 0 where
    is_r : suc p < rules_in R
    of_p : part_of run (rule_at R run p) ≡ q
    of_r : part_of run (rule_at R run (suc p)) ≡ q
    order_p : seen.order p ≡ rule_at R run p
    order_r : seen.order (suc p) ≡ rule_at R run (suc p)

  near : (q p : ℕ) → Neighbours seen q p → Near q p
  near q p at =
      let in_b : q < b = omega (arith, at.part, seen_parts choice) in
      let low : start_of R run q ≤ p = omega (arith, at.from_start, seen_start choice q (omega arith)) in
      let high : suc p < start_of R run (suc q) = omega (arith, at.to_next, seen_start choice (suc q) in_b) in
      let is_r : suc p < rules_in R = omega (arith, start_few choice (suc q) in_b) in
      record {
        is_r = is_r;
        of_p = place_part sound choice p q low (omega arith);
        of_r = place_part sound choice (suc p) q (omega arith) high;
        order_p = read_order R run p (omega arith);
        order_r = read_order R run (suc p) is_r;
      }

  -- in one run where f is below how many first fields they have alike
  near_run : (q p f : ℕ) → Near q p → f < fields_of R → in_run R run (suc p) f p ≡ ltb f (joined R seen p)
  near_run q p f at in_row =
      rw (at.of_p, at.of_r, eq-eqb q q refl, at.order_p, at.order_r) (sym (alike-under R (rule_at R run p) (rule_at R run (suc p)) f in_row))

  laid_from : (q p f : ℕ) → Near q p → f < fields_of R → seen.from (suc p) f ≡ pick (ltb f (joined R seen p)) (seen.from p f) (suc p)
  laid_from q p f at in_row =
      rw (read_from R run (suc p) f at.is_r in_row, read_from R run p f (omega (arith, at.is_r)) in_row) (go (ltb f (joined R seen p)) (near_run q p f at in_row))
    where
      go : (t : Bool) → in_run R run (suc p) f p ≡ t → run_from R run (suc p) f ≡ pick t (run_from R run p f) (suc p)
      go true e = from_same R run f p (suc p) e
      go false e = from_new sound choice f p (suc p) refl at.is_r e

  laid_to : (q p f : ℕ) → Near q p → f < fields_of R → seen.to p f ≡ pick (ltb f (joined R seen p)) (seen.to (suc p) f) (suc p)
  laid_to q p f at in_row =
      rw (read_to_lem R run (suc p) f at.is_r in_row, read_to_lem R run p f (omega (arith, at.is_r)) in_row) (go (ltb f (joined R seen p)) (near_run q p f at in_row))
    where
      go : (t : Bool) → in_run R run (suc p) f p ≡ t → run_to R run p f ≡ pick t (run_to R run (suc p) f) (suc p)
      go true e = to_same R run f p (suc p) (run_turn R run p f (suc p) ∙ e)
      go false e = to_new sound choice f p (suc p) refl at.is_r (run_turn R run p f (suc p) ∙ e)

  -- places p and p + 1 of two partitions
  apart_run : (p f : ℕ) → (part_of run (rule_at R run p) ≡ part_of run (rule_at R run (suc p)) → ⊥) → in_run R run (suc p) f p ≡ false
  apart_run p f other = rw (ne_eqb (part_of run (rule_at R run p)) (part_of run (rule_at R run (suc p))) other)

  -- the first place of a partition
  first_from : (p q f : ℕ) → q < b → start_of R run q ≡ p → p < rules_in R → run_from R run p f ≡ p
  first_from zero q f in_b e is_p = from_first R run f is_p
  first_from (suc p) q f in_b e is_p =
      from_new sound choice f p (suc p) refl is_p
      (apart_run p f (λ same.
      let of_r = place_part sound choice (suc p) q (omega arith) (omega (arith, start_ascend choice q in_b)) in
      let low = subst (λ x. start_of R run x ≤ p) (same ∙ of_r) (in_part sound choice p (omega arith)).0 in
      omega arith))

  -- the last
  last_to : (p q f : ℕ) → q < b → suc p ≡ start_of R run (suc q) → run_to R run p f ≡ suc p
  last_to p q f in_b e = go (ltb (suc p) (rules_in R)) refl (start_few choice (suc q) in_b)
    where
      go : (t : Bool) → ltb (suc p) (rules_in R) ≡ t → start_of R run (suc q) ≤ rules_in R → run_to R run p f ≡ suc p
      go false g few = to_last R run f p (omega (arith, ltb-false (suc p) (rules_in R) g))
      go true g few =
          let is_r = ltb-true (suc p) (rules_in R) g in
          to_new sound choice f p (suc p) refl is_r
          (run_turn R run p f (suc p)
          ∙ apart_run p f (λ same.
          let of_p = place_part sound choice p q (omega (arith, start_ascend choice q in_b)) (omega arith) in
          let high = subst (λ x. suc p < start_of R run (suc x)) (sym same ∙ of_p) (in_part sound choice (suc p) is_r).1 in
          omega arith))

  in_seen : (q : ℕ) → q < seen.b → q < b
  in_seen q lt = omega (arith, seen_parts choice)

  pub laid_checked : Checked R (view_of R (table_of R run))
  laid_checked =
      let kept = choice_keeps_promise sound choice in
      record {
        rules = kept.rules;
        fields = kept.fields;
        few_parts = omega (arith, seen_parts choice, choice_few choice);
        first_start = kept.first_start;
        last_start = kept.last_start;
        ascend = kept.ascend;
        zeros = λ q past le. read_start R run q le ∙ start_past choice q (omega (arith, seen_parts choice));
        smallest = kept.smallest;
        no_least = λ q past lt. read-least R run q lt ∙ least_past choice q (omega (arith, seen_parts choice));
        order_rule = kept.order_rule;
        order_once = kept.order_once;
        sorted = λ q p at.
            let n = near q p at in
            rw (n.order_p, n.order_r) (place_before sound choice p (suc p) (omega arith) n.is_r (n.of_p ∙ sym n.of_r));
        from_first = λ q f lt in_row.
            let in_b = in_seen q lt in
            let is = seen_start choice q (omega arith) in
            let few : start_of R run q < rules_in R = omega (arith, start_ascend choice q in_b, start_few choice (suc q) in_b) in
            rw is (read_from R run (start_of R run q) f few in_row ∙ first_from (start_of R run q) q f in_b refl few);
        from_next = λ q p f at in_row. laid_from q p f (near q p at) in_row;
        to_last = λ q p f lt e in_row.
            let in_b = in_seen q lt in
            let is : suc p ≡ start_of R run (suc q) = e ∙ seen_start choice (suc q) in_b in
            read_to_lem R run p f (omega (arith, start_few choice (suc q) in_b)) in_row ∙ last_to p q f in_b is;
        to_next = λ q p f at in_row. laid_to q p f (near q p at) in_row;
      }

  -- ---- and the run read off is the choice
  pub off_back : length run ≡ rules_in R → run_off (rules_in R) (view_of R (table_of R run)) ≡ run
  off_back long =
      ext_get_or 0 (run_off (rules_in R) seen) run (off_long laid_checked ∙ sym long)
      (λ i lt.
      let is_i : i < rules_in R = omega (arith, off_long laid_checked) in
      let is_p = place_lt sound choice i is_i in
      let order_is = read_order R run (place_of R run i) is_p ∙ rule_place sound choice i is_i in
      let at = subst (λ x. (start_of R run (part_of run x) ≤ place_of R run i) × (place_of R run i < start_of R run (suc (part_of run x)))) (rule_place sound choice i is_i) (in_part sound choice (place_of R run i) is_p) in
      let few = choice.below i is_i in
      part_off laid_checked i is_i
      ∙ ap (part_at seen) (place_once_in laid_checked (place_of R run i) i is_p order_is)
      ∙ part_is laid_checked (part_of run i) (place_of R run i)
      (record {
        part = omega (arith, seen_parts choice);
        from_start = omega (arith, seen_start choice (part_of run i) (omega arith), at.0);
        to_next = omega (arith, seen_start choice (suc (part_of run i)) few, at.1);
      }))

-- ---- the two as one statement
-- some choice of partitions for the list makes the table
pub record Made (R : Rules) (T : List ℕ) : Type 0 where
  pub run : List ℕ
  pub one_each : length run ≡ rules_in R
  pub choice : Choice R run (parts run (rules_in R))
  pub is : T ≡ table_of R run

module _ (R : Rules) (T : List ℕ) (sound : Sound R) where
  pub checked_made : TableFor (rules_in R) (fields_of R) T → Checked R (view_of R T) → Made R T
  checked_made sized h =
      let choice = off_choice h sound in
      record {
        run = run_off (rules_in R) (view_of R T);
        one_each = off_long h;
        choice = subst (Choice R (run_off (rules_in R) (view_of R T))) (sym (choice_parts choice)) choice;
        is = checked_laid T sound h sized;
      }

  pub made_checked : Made R T → Checked R (view_of R T)
  made_checked m = subst (λ S. Checked R (view_of R S)) (sym m.is) (laid_checked sound m.choice)

  -- one run alone makes it
  pub made_once : (m m' : Made R T) → m.run ≡ m'.run
  made_once m m' =
      sym (off_back sound m.choice m.one_each)
      ∙ ap (λ S. run_off (rules_in R) (view_of R S)) (sym m.is ∙ m'.is)
      ∙ off_back sound m'.choice m'.one_each
