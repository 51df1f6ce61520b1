-- Laws of what becomes of the rules once their file has ended (`specs/Tabled.antt`).
--     list_place, build_place                        the place of a build's refusal has few bits
--     built_list                                     in a run of the right length, that is what the list's check finds
--     flaw_built, after_built                        the flaw of rules that are built, and the run for the table
--     after_long                                     a build leaves a run as long as it was
-- Assumes nothing.
use Prim.Native.Nat.{ℕ, ◌/◌, ◌<◌}
use mathlib.Core.Bool.{Bool, true, false}
use mathlib.Core.List.{List, ◌++◌}
use mathlib.Core.Path.{◌≡◌, refl, sym, ◌∙◌}
use native.Mathlib.Omega.{arith}
use borrow.Author.Tests.{eq-eqb, ne_eqb, ltb-true}
use lib.ListN.{length, take, drop}
use lib.Dec.{ltb, eqb}
use Rattle.std.specs.Prelude.{None, Ok, Err, IfErr}
use Rattle.ranges.specs.Numbers.{pick, least}
use Rattle.ranges.specs.Refusals.{Refusal, Fault, none, refused, refused_at, or_else, unless, stands}
use Rattle.ranges.specs.declared.refusal.Cause.TheVariants.{BadFields, BadLength, TooManyRules, LowAboveHigh, BadTableLength}
use Rattle.ranges.proofs.InARow.{not-none}
use Rattle.ranges.proofs.Numbers.{least_le}
use Rattle.lists.specs.Rules.{Rules, fields_of, rules_in, is_void, shape_of}
use Rattle.lists.specs.declared.shape.Shape.{Shape}
use Rattle.lists.specs.Faults.{bad_fields, bad_length, too_many_rules, shape_fault, bad_rule, ends_fault, list_fault}
use Rattle.lists.proofs.Faults.{shaped}
use Rattle.tables.specs.Layout.{table_length}
use Rattle.sorting.specs.FirstFit.{first_fit}
use Rattle.sorting.specs.Table.{built_table}
use Rattle.sorting.specs.Build.{build_fault, built_parts, build_of, table_after}
use Rattle.sorting.proofs.Sorted.Reading.{table_sized}
use Rattle.sorting.proofs.Answering.BuildFaults.{buildable}
use Rattle.rulesfile.specs.Flaws.{refused_flaw, list_flaw}
use Rattle.rulesfile.specs.Tabled.{list_read, room_read, tabled_flaw, tabled_after}
use Rattle.rulesfile.specs.declared.file.RulesSoFar.{RulesSoFar}

-- ---- a refusal's place has few bits
abbrev Near : Refusal → Type 0
Near x = (x.at < 65536) × (x.then < 65536)

shape_place : (R : Rules) → IfErr (shape_fault R) Near
unfolding shape_fault
shape_place R = go (bad_fields R) (bad_length R) (too_many_rules R)
  where
    go : (a e g : Bool) → IfErr (pick a (refused BadFields) (pick e (refused BadLength) (pick g (refused TooManyRules) none))) Near
    go true e g = (omega arith, omega arith)
    go false true g = (omega arith, omega arith)
    go false false true = (omega arith, omega arith)
    go false false false = tt

ends_place : (R : Rules) → shape_fault R ≡ none → IfErr (ends_fault R) Near
unfolding ends_fault
ends_place R fine = go (ltb (bad_rule R) (rules_in R)) refl
  where
    go : (t : Bool) → ltb (bad_rule R) (rules_in R) ≡ t → IfErr (pick t (refused_at LowAboveHigh (bad_rule R) (least (fields_of R) (is_void R (bad_rule R)))) none) Near
    go true e =
        let shape = shaped R fine in
        let rule = ltb-true (bad_rule R) (rules_in R) e in
        let field = least_le (is_void R (bad_rule R)) (fields_of R) in
        (omega (arith, shape.few_rules), omega (arith, shape.few_fields))
    go false e = tt

list_place : (R : Rules) → IfErr (list_fault R) Near
list_place R = go (shape_fault R) refl (shape_place R)
  where
    go : (f : Fault) → shape_fault R ≡ f → IfErr f Near → IfErr (or_else f (ends_fault R)) Near
    go (Ok u) e near = ends_place R e
    go (Err x) e near = near

fault_place : (R : Rules) (T : List ℕ) → IfErr (build_fault R T) Near
unfolding build_fault
fault_place R T = go (list_fault R) (eqb (length T) (table_length (rules_in R) (fields_of R))) (list_place R)
  where
    go : (f : Fault) (t : Bool) → IfErr f Near → IfErr (or_else f (pick t none (refused BadTableLength))) Near
    go (Ok u) true near = tt
    go (Ok u) false near = (omega arith, omega arith)
    go (Err x) t near = near

-- the refusal of a build as the code has it
pub build_place : (R : Rules) (T : List ℕ) {x : Refusal} → Err x ≡ build_of R T → Near x
build_place R T {x} built = go (build_fault R T) (fault_place R T) built
  where
    go : (f : Fault) → IfErr f Near → Err x ≡ unless f (built_parts R) → Near x
    go (Ok u) near e = absurd (not-none e)
    go (Err y) near e = let same : x ≡ y = cc in rw same near

-- ---- what the build of a list finds
-- the list's check comes first, and a run of the right length is not refused
pub built_list : (R : Rules) (T : List ℕ) → length T ≡ table_length (rules_in R) (fields_of R) → refused_flaw R (build_of R T) ≡ list_flaw R
unfolding build_fault
built_list R T size = rw (eq-eqb (length T) (table_length (rules_in R) (fields_of R)) size) (go (list_fault R))
  where
    go : (f : Fault) → refused_flaw R (unless (or_else f none) (built_parts R)) ≡ refused_flaw R f
    go (Ok u) = refl
    go (Err x) = refl

-- ---- the rules
pub shape_few : (r : RulesSoFar) {s : Shape} → s ≡ shape_of (r.width / 2) → r.width < 65536 → s.d < 65536
shape_few r is few = rw is (omega arith)

-- rules without flaw, of which there are some
module _ (r : RulesSoFar) (list table : List ℕ) (fine : r.flaw ≡ None) (some : r.lines ≡ 0 → ⊥) where
  abbrev front : List ℕ
  front = take (room_read r table) table

  pub flaw_built : tabled_flaw r list table ≡ refused_flaw (list_read r list) (build_of (list_read r list) front)
  unfolding tabled_flaw
  flaw_built = rw (fine, ne_eqb r.lines 0 some)

  pub after_built : tabled_after r list table ≡ table_after (list_read r list) front ++ drop (room_read r table) table
  unfolding tabled_after
  after_built = rw (fine, ne_eqb r.lines 0 some)

-- ---- the run keeps its length
pub after_long : (R : Rules) (T : List ℕ) → length (table_after R T) ≡ length T
after_long R T = go (build_fault R T) refl
  where
    go : (f : Fault) → build_fault R T ≡ f → length (pick (stands f) (built_table R) T) ≡ length T
    go (Ok u) e = (table_sized R (first_fit R (rules_in R))).long ∙ sym (buildable R T e).sized.long
    go (Err x) e = refl
