-- What a report says of the table of any choice of partitions: it is never refused for one of the b partitions, and answers how many
-- rules the partition has and which of them has the smallest number, as the choice itself has them.
--     choice_reported        no refusal applies
--     choice_size            the size is how many rules have this partition number
--     choice_report          the answer
-- Assumes nothing.
use Prim.Native.Nat.{ℕ, suc, ◌+◌, ◌<◌}
use mathlib.Core.Bool.{Bool, true, false}
use mathlib.Core.List.{List}
use mathlib.Core.Path.{◌≡◌, refl, ◌∙◌}
use native.Mathlib.Omega.{arith}
use lib.Dec.{ltb, eqb}
use borrow.Author.Tests.{lt-ltb, le-leb, ltb-true, ltb-false, eqb-true, eqb-false}
use Rattle.std.specs.Prelude.{Ok}
use Rattle.ranges.specs.Numbers.{bit, count, least}
use Rattle.lists.specs.Rules.{Rules, rules_in, Shaped}
use Rattle.sorting.specs.FirstFit.{part_of, Choice}
use Rattle.tables.specs.Opening.{view_of}
use Rattle.sorting.specs.Table.{start_of, table_of}
use Rattle.sorting.specs.Promise.{Promise}
use Rattle.tables.specs.Report.{size_of, report_of}
use Rattle.lists.proofs.Sound.{Sound}
use Rattle.ranges.proofs.Counting.{count_split}
use Rattle.sorting.proofs.Sorted.Starts.{choice_few, start_is, start_few, start_ascend}
use Rattle.sorting.proofs.Sorted.Leasts.{least_part, least-rule}
use Rattle.sorting.proofs.Sorted.Kept.{seen_parts, seen_start, seen-least, choice_keeps_promise}
use Rattle.sorting.proofs.Sorted.Reading.{table_sized}
use Rattle.tables.proofs.Opened.{Opened}
use Rattle.tables.proofs.Reporting.{Reported, report_answers}

-- a number below suc q is below q, or q itself
bit_next : (x q : ℕ) → bit (ltb x (suc q)) ≡ bit (ltb x q) + bit (eqb x q)
bit_next x q = go (ltb x (suc q)) (ltb x q) (eqb x q) refl refl refl
  where
    go : (s t u : Bool) → ltb x (suc q) ≡ s → ltb x q ≡ t → eqb x q ≡ u → bit s ≡ bit t + bit u
    go true true true a b c = absurd (omega (arith, ltb-true x q b, eqb-true x q c))
    go true true false a b c = refl
    go true false true a b c = refl
    go true false false a b c =
        let other : x ≡ q → ⊥ = eqb-false x q c in
        absurd (omega (arith, ltb-true x (suc q) a, ltb-false x q b))
    go false true u a b c = absurd (omega (arith, ltb-false x (suc q) a, ltb-true x q b))
    go false false true a b c = absurd (omega (arith, ltb-false x (suc q) a, eqb-true x q c))
    go false false false a b c = refl

module _ {R : Rules} {run : List ℕ} {b : ℕ} (shape : Shaped R) (sound : Sound R) (choice : Choice R run b) {q : ℕ} (few : q < b) where
  kept : Promise R (view_of R (table_of R run))
  kept = choice_keeps_promise sound choice

  start_read_off : (view_of R (table_of R run)).start q ≡ start_of R run q
  start_read_off = seen_start choice q (omega arith)

  next_read_off : (view_of R (table_of R run)).start (suc q) ≡ start_of R run (suc q)
  next_read_off = seen_start choice (suc q) few

  table_opens : Opened R (table_of R run)
  table_opens =
      record {
        shape_stands = shape;
        sized = table_sized R run;
        rules = kept.rules;
        fields = kept.fields;
        few_parts = omega (arith, seen_parts choice, choice_few choice);
        first_start = kept.first_start;
        last_start = kept.last_start;
      }

  pub choice_reported : Reported R (table_of R run) q
  choice_reported =
      record {
        opens = table_opens;
        part = omega (arith, seen_parts choice);
        starts = rw (start_read_off, next_read_off, lt-ltb (start_of R run q) (start_of R run (suc q)) (start_ascend choice q few), le-leb (start_of R run (suc q)) (rules_in R) (start_few choice (suc q) few));
        least = omega (arith, seen-least choice q few, (least-rule choice q few).0);
      }

  -- the size is how many rules have this partition number
  pub choice_size : size_of (view_of R (table_of R run)).start q ≡ count (rules_in R) (λ i. eqb (part_of run i) q)
  choice_size =
      let split =
      count_split (λ i. ltb (part_of run i) q) (λ i. eqb (part_of run i) q) (λ i. ltb (part_of run i) (suc q)) (rules_in R) (λ i l. bit_next (part_of run i) q) in
      omega (arith, split, start_read_off, next_read_off, start_is choice q (omega arith), start_is choice (suc q) few)

  pub choice_report : report_of R (table_of R run) q
      ≡ Ok (record { size = count (rules_in R) (λ i. eqb (part_of run i) q); least = least (rules_in R) (λ i. eqb (part_of run i) q) })
  choice_report = report_answers choice_reported choice_size (seen-least choice q few ∙ least_part choice q few)
