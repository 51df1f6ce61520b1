-- Laws of the report on a partition (`specs/Report.antt`): its refusals, and what it answers where none applies.
--     Reported, reported, report_none                a list, a table and a partition that meet no refusal
--     reported_few, reported_within                  the same, as the code works it out
--     report_7, seven_where                          7
--     report_answers                                 the answer
-- Assumes nothing.
use Prim.Native.Nat.{ℕ, ◌≤◌, ◌<◌}
use mathlib.Core.Bool.{Bool, true, false}
use mathlib.Core.List.{List}
use mathlib.Core.Path.{◌≡◌, refl, ap}
use native.Mathlib.Omega.{arith}
use lib.Dec.{ltb}
use borrow.Author.Tests.{lt-ltb, le-ltb, ltb-true, ltb-false}
use Rattle.std.specs.Prelude.{Ok, Err}
use Rattle.ranges.specs.Numbers.{pick, ◌and◌}
use Rattle.ranges.specs.Refusals.{Fault, none, refused, or_else, number_in}
use Rattle.ranges.specs.declared.refusal.Cause.TheVariants.{BrokenTable, NoSuchPartition}
use Rattle.ranges.proofs.InARow.{not-none}
use Rattle.lists.specs.Rules.{Rules, rules_in}
use Rattle.lists.specs.Limits.{most_rules}
use Rattle.tables.specs.Layout.{start_in}
use Rattle.tables.specs.Opening.{part_stands, view_of, open_fault}
use Rattle.tables.specs.Asked.{PartWithin}
use Rattle.tables.specs.Report.{size_of, part_fault, report_fault, report_of}
use Rattle.tables.proofs.Opened.{Opened, opened, opened_none, open_few}
use Rattle.tables.proofs.Readers.{part_spans}

-- ---- what is not refused
-- a list, a table and a partition that meet none of a report's refusals
pub record Reported (R : Rules) (T : List ℕ) (q : ℕ) : Type 0 where
  pub opens : Opened R T
  pub part : q < (view_of R T).b
  pub starts : part_stands (rules_in R) (view_of R T).start q ≡ true
  pub least : (view_of R T).least q < rules_in R

pub reported : (R : Rules) (T : List ℕ) (q : ℕ) → report_fault R T q ≡ none → Reported R T q
unfolding report_fault part_fault
reported R T q =
    go (open_fault R T) refl (ltb q (view_of R T).b) refl (part_stands (rules_in R) (view_of R T).start q) refl (ltb ((view_of R T).least q) (rules_in R)) refl
  where
    go : (a : Fault) → open_fault R T ≡ a → (b : Bool) → ltb q (view_of R T).b ≡ b
        → (s : Bool) → part_stands (rules_in R) (view_of R T).start q ≡ s → (t : Bool) → ltb ((view_of R T).least q) (rules_in R) ≡ t
        → or_else a (pick b (pick (s and t) none (refused BrokenTable)) (refused NoSuchPartition)) ≡ none
        → Reported R T q
    go (Err x) p b u s v t w z = absurd (not-none z)
    go (Ok o) p false u s v t w z = absurd (not-none z)
    go (Ok o) p true u false v t w z = absurd (not-none z)
    go (Ok o) p true u true v false w z = absurd (not-none z)
    go (Ok o) p true u true v true w z =
        record {
          opens = opened R T p;
          part = ltb-true q (view_of R T).b u;
          starts = v;
          least = ltb-true ((view_of R T).least q) (rules_in R) w;
        }

-- the same, as the code works it out: m is the number of rules
module _ (R : Rules) (T : List ℕ) (q : ℕ) (z : report_fault R T q ≡ none) where
  pub reported_few : q < most_rules
  reported_few =
      let told = reported R T q z in
      omega (arith, told.part, told.opens.few_parts, told.opens.shape_stands.few_rules)

  pub reported_within : {m : ℕ} → m ≡ rules_in R → PartWithin m (start_in m T) q
  reported_within {m} is_m =
      let spans = part_spans m (start_in m T) q (rw is_m (reported R T q z).starts) in
      record { ascend = spans.0; within = spans.1 }

pub report_none : {R : Rules} {T : List ℕ} {q : ℕ} → Reported R T q → report_fault R T q ≡ none
unfolding report_fault part_fault
report_none {R} {T} {q} h =
    rw (opened_none h.opens, lt-ltb q (view_of R T).b h.part, h.starts, lt-ltb ((view_of R T).least q) (rules_in R) h.least)

-- ---- 7
pub report_7 : (R : Rules) (T : List ℕ) (q : ℕ) → open_fault R T ≡ none → (view_of R T).b ≤ q → report_fault R T q ≡ refused NoSuchPartition
unfolding report_fault
report_7 R T q z many = rw (z, le-ltb q (view_of R T).b many)

-- 7 is given where the table opens and the partition number is b or more
pub seven_where : (R : Rules) (T : List ℕ) (q : ℕ) → report_fault R T q ≡ refused NoSuchPartition → (open_fault R T ≡ none) × ((view_of R T).b ≤ q)
unfolding report_fault part_fault
seven_where R T q = go (open_fault R T) (open_few R T) refl (ltb q (view_of R T).b) refl (part_stands (rules_in R) (view_of R T).start q and ltb ((view_of R T).least q) (rules_in R))
  where
    go : (a : Fault) → number_in a ≤ 6 → open_fault R T ≡ a → (b : Bool) → ltb q (view_of R T).b ≡ b → (s : Bool)
        → or_else a (pick b (pick s none (refused BrokenTable)) (refused NoSuchPartition)) ≡ refused NoSuchPartition
        → (open_fault R T ≡ none) × ((view_of R T).b ≤ q)
    go (Err x) few p b u s z = absurd (omega (arith, ap number_in z))
    go (Ok o) few p true u true z = absurd (omega (arith, ap number_in z))
    go (Ok o) few p true u false z = absurd (omega (arith, ap number_in z))
    go (Ok o) few p false u s z = (p, ltb-false q (view_of R T).b u)

-- ---- the answer
pub report_answers : {R : Rules} {T : List ℕ} {q : ℕ} → Reported R T q → {size least : ℕ} → size_of (view_of R T).start q ≡ size
    → (view_of R T).least q ≡ least → report_of R T q ≡ Ok record { size = size; least = least }
report_answers {R} {T} {q} h is-size is-least = rw (report_none h, ← is-size, ← is-least)
