-- The list that the lines of a rules file come to, where none of them has a flaw: its shape stands, so that its check finds 4 or
-- nothing, and a file's flaw has the number that 01 refuses the file by.
--     stood_list, stood_length, stood_rules, stood_shaped      the list as it was read
--     reading_shaped                                           the same of the lines alone
--     list_number, refused_none                                what the check of a list finds
--     flaw_number_is                                           a whole file
-- Assumes nothing.
use Prim.Native.Nat.{ℕ, ◌*◌, ◌/◌, ◌<◌}
use mathlib.Core.Bool.{Bool, true, false}
use mathlib.Core.List.{List}
use mathlib.Core.Path.{◌≡◌, refl, sym, ap, ◌∙◌}
use native.Mathlib.Omega.{arith}
use native.Mathlib.Nat.{mul-div_cancel, mul_assoc}
use borrow.Author.Tests.{eqb-true}
use lib.Dec.{ltb, eqb}
use lib.ListN.{length, take}
use lib.Seq.{length-take-le}
use Rattle.std.specs.Prelude.{None, Ok, Err}
use Rattle.ranges.specs.Numbers.{pick, tab, least}
use Rattle.ranges.specs.Refusals.{Fault, none, refused_at, number_in}
use Rattle.ranges.specs.declared.refusal.Cause.TheVariants.{LowAboveHigh}
use Rattle.ranges.proofs.Numbers.{tab-length}
use Rattle.lists.specs.Limits.{most_numbers}
use Rattle.lists.specs.Rules.{Rules, shape_of, listed, fields_of, rules_in, is_void, Shaped}
use Rattle.lists.specs.Faults.{bad_rule, ends_fault, list_fault}
use Rattle.lists.proofs.Sound.{shaped_none}
use Rattle.text.specs.Judging.{Judged, judged_lines}
use Rattle.rulesfile.specs.Faults.{first_fault, width_of, list_of, rules_from, reading_fault, rules_fault}
use Rattle.rulesfile.specs.Flaws.{reading_flaw, refused_flaw, list_flaw, file_flaw}
use Rattle.flaws.specs.Numbered.{number_of_flaw}
use Rattle.rulesfile.specs.Bytes.{rules_so_far, line_at, judge_rules}
use Rattle.rulesfile.specs.declared.file.RulesSoFar.{RulesSoFar}
use Rattle.rulesfile.proofs.Flaws.{number_none}
use Rattle.rulesfile.proofs.Numbers.{first_number, reading_number}
use Rattle.rulesfile.proofs.Come.{Stood, come}

-- ---- the list as it was read
module _ (ls : List (List ℕ)) (y : Judged RulesSoFar) (s : Stood ls y) where
  pub stood_list : listed (shape_of (y.own.width / 2)) (take (y.own.lines * y.own.width) y.run) ≡ rules_from ls
  stood_list = ap (λ w. listed (shape_of (w / 2)) (take (y.own.lines * y.own.width) y.run)) s.width ∙ ap (listed (shape_of (width_of ls / 2))) s.numbers

  -- two numbers a field
  halves : width_of ls / 2 * 2 ≡ width_of ls
  halves = let even = s.even in omega arith

  pub stood_length : length (list_of ls) ≡ length ls * width_of ls
  stood_length = ap length (sym s.numbers) ∙ length-take-le (y.own.lines * y.own.width) y.run s.within ∙ rw (s.lines, s.width)

  -- a rule a line
  pub stood_rules : rules_in (rules_from ls) ≡ length ls
  unfolding rules_in
  stood_rules =
      let wide = s.wide in
      let some : 0 < width_of ls = omega arith in
      ap (λ k. length (list_of ls) / k) halves ∙ ap (λ k. k / width_of ls) stood_length ∙ mul-div_cancel (length ls) some

  pub stood_shaped : Shaped (rules_from ls)
  stood_shaped =
      let wide = s.wide in
      let narrow = s.narrow in
      let width = s.width in
      let few = s.few in
      let lines = s.lines in
      let rules = stood_rules in
      record {
        some_fields = omega arith;
        few_fields = omega arith;
        whole = stood_length ∙ ap (λ k. length ls * k) (sym halves) ∙ sym (mul_assoc (length ls) (width_of ls / 2) 2) ∙ ap (λ n. n * (width_of ls / 2) * 2) (sym rules);
        few_rules = omega arith;
      }

-- the same of the lines alone: they can be read into any list
pub reading_shaped : (ls : List (List ℕ)) → reading_flaw ls ≡ None → Shaped (rules_from ls)
reading_shaped ls none =
    let list = tab most_numbers (λ k. 0) in
    stood_shaped ls (judged_lines line_at judge_rules (rules_so_far 0 0 None) list ls) ((come ls list (tab-length (λ k. 0) most_numbers)).stood none)

-- ---- what its check finds
-- 4 or nothing
ends_number : (R : Rules) → number_of_flaw (refused_flaw R (ends_fault R)) ≡ number_in (ends_fault R)
unfolding ends_fault
ends_number R = go (ltb (bad_rule R) (rules_in R))
  where
    go : (t : Bool) → let y : Fault = pick t (refused_at LowAboveHigh (bad_rule R) (least (fields_of R) (is_void R (bad_rule R)))) none in
        number_of_flaw (refused_flaw R y) ≡ number_in y
    go true = refl
    go false = refl

pub list_number : (R : Rules) → Shaped R → number_of_flaw (list_flaw R) ≡ number_in (list_fault R)
list_number R shaped = rw (shaped_none R shaped) (ends_number R)

-- where that is no flaw, nothing is refused
pub refused_none : (R : Rules) (f : Fault) → refused_flaw R f ≡ None → f ≡ none
refused_none R (Ok u) e = refl
refused_none R (Err x) e = absurd (cc)

-- ---- a whole file
pub flaw_number_is : (ls : List (List ℕ)) → number_of_flaw (file_flaw ls) ≡ rules_fault ls
flaw_number_is ls =
    first_number (reading_flaw ls) (list_flaw (rules_from ls))
    ∙ ap (λ f. first_fault f (number_of_flaw (list_flaw (rules_from ls)))) (reading_number ls)
    ∙ go (eqb (reading_fault ls) 0) refl
  where
    go : (t : Bool) → eqb (reading_fault ls) 0 ≡ t
        → first_fault (reading_fault ls) (number_of_flaw (list_flaw (rules_from ls))) ≡ first_fault (reading_fault ls) (number_in (list_fault (rules_from ls)))
    go true e =
        let fine = number_none (reading_flaw ls) (reading_number ls ∙ eqb-true (reading_fault ls) 0 e) in
        ap (first_fault (reading_fault ls)) (list_number (rules_from ls) (reading_shaped ls fine))
    go false e = rw e
