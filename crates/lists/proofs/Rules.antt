-- Laws of where a rule's numbers stand (`specs/Rules.antt`), and what a list is whose shape stands.
--     Shaped           d is 1 to 8, the list has 2d numbers a rule, and at most 1,024 rules
--     rules-none, rules_halved      n as the code works it out
--     whole_length, length_whole    the list has 2d numbers a rule, either way round
--     offset_inside      of such a list, the low and the high of each field of each rule stand in it
--     has_rule, has_field            the same, as the records that the contracts of the leaves ask for
--     rule-within, rule_past        which rules a list has, by where a rule's last field ends
--     range_read                    the range made of what is read where a callee said that a rule's low stands
--     square_few       a product of two numbers of 16 bits is far below a word
-- Assumes nothing.
use Prim.Native.Nat.{ℕ, suc, ◌+◌, ◌*◌, ◌/◌, ◌%◌, ◌^◌, ◌≤◌, ◌<◌}
use mathlib.Core.List.{List}
use mathlib.Core.Path.{◌≡◌, sym, ap, ◌∙◌}
use native.Mathlib.Omega.{arith}
use native.Mathlib.Nat.{mul-le-mul, mul-le-mul_right, div-add-mod', div-mul-le_self, div-div-eq-div-mul, div-zero, mul_assoc, mul_comm, mul-mod_left, le-div_iff_mul-le, div-lt_iff_lt-mul, le_of_suc-le-suc}
use lib.ListN.{length, get_or}
use Rattle.ranges.specs.Sides.{range_of}
use Rattle.lists.specs.Rules.{Rules, flag_of, listed, fields_of, rules_in, offset_of, low_of, high_of, ends_at, range_at}
use Rattle.lists.specs.declared.shape.Shape.{Shape}
use Rattle.lists.specs.Asked.{HasRule, HasField}
use Rattle.lists.proofs.Dates.{date_flag}
pub use Rattle.lists.specs.Rules.{Shaped}

-- a length that is a multiple of 2d is n * d * 2
pub whole_length : (R : Rules) → length R.numbers % (fields_of R * 2) ≡ 0 → length R.numbers ≡ rules_in R * fields_of R * 2
unfolding rules_in
whole_length R none_left =
    let split = div-add-mod' (length R.numbers) (fields_of R * 2) in
    omega (arith, split, mul_assoc (length R.numbers / (fields_of R * 2)) (fields_of R) 2)

-- the rules take no more than the list has
pub rules-within : (R : Rules) → rules_in R * fields_of R * 2 ≤ length R.numbers
unfolding rules_in
rules-within R =
    let n = length R.numbers / (fields_of R * 2) in
    omega (arith, div-mul-le_self (length R.numbers) (fields_of R * 2), mul_assoc n (fields_of R) 2)

pub within_by : (R : Rules) (m : ℕ) → m ≡ rules_in R → m * fields_of R * 2 ≤ length R.numbers
within_by R m e = rw e (rules-within R)

-- a length of n * d * 2 is a multiple of 2d
pub length_whole : (R : Rules) → rules_in R * fields_of R * 2 ≡ length R.numbers → length R.numbers % (fields_of R * 2) ≡ 0
length_whole R e =
    ap (λ k. k % (fields_of R * 2)) (sym e ∙ mul_assoc (rules_in R) (fields_of R) 2) ∙ mul-mod_left (rules_in R) (fields_of R * 2)

-- n as the code works it out
pub rules-none : (R : Rules) → fields_of R ≡ 0 → rules_in R ≡ 0
unfolding rules_in
rules-none R e = ap (λ d. length R.numbers / (d * 2)) e ∙ div-zero (length R.numbers)

pub rules_halved : (R : Rules) → length R.numbers / 2 / fields_of R ≡ rules_in R
unfolding rules_in
rules_halved R = div-div-eq-div-mul (length R.numbers) 2 (fields_of R) ∙ ap (λ k. length R.numbers / k) (mul_comm 2 (fields_of R))

-- the row of rule i ends before the row of rule n begins
pub row_inside : (d i n f : ℕ) → i < n → f < d → i * d + f < n * d
row_inside d i n f lt in_row = omega (arith, mul-le-mul_right d lt)

pub offset_inside : (R : Rules) → Shaped R → (i f : ℕ) → i < rules_in R → f < fields_of R → offset_of (fields_of R) i f + 1 < length R.numbers
unfolding offset_of
offset_inside R s i f lt in_row = omega (arith, row_inside (fields_of R) i (rules_in R) f lt in_row, s.whole)

-- each rule of such a list stands in it, and each field of a rule that does
pub has_rule : {R : Rules} → Shaped R → {i : ℕ} → i < rules_in R → HasRule R i
unfolding offset_of
has_rule {R} s {i} lt = record { few_fields = s.few_fields; within = omega (arith, mul-le-mul_right (fields_of R) lt, s.whole) }

pub has_field : {R : Rules} {i : ℕ} → HasRule R i → {f : ℕ} → f < fields_of R → HasField R i f
unfolding offset_of
has_field {R} {i} has {f} lt = record { few_fields = has.few_fields; field = lt; within = omega (arith, has.within) }

-- a rule whose last field ends within the list is one of its rules, and one whose last field does not is none
module _ (R : Rules) (i at : ℕ) (some : 1 ≤ fields_of R) (is-offset : at ≡ offset_of (fields_of R) i (fields_of R)) where
  row_ends : at ≡ suc i * (fields_of R * 2)
  unfolding offset_of
  row_ends = omega (arith, is-offset, mul_assoc (suc i) (fields_of R) 2)

  pub rule-within : at ≤ length R.numbers → i < rules_in R
  unfolding rules_in
  rule-within le =
      let room : 0 < fields_of R * 2 = omega arith in
      (le-div_iff_mul-le room).1 (rw row_ends at le)

  pub rule_past : length R.numbers < at → rules_in R ≤ i
  unfolding rules_in
  rule_past lt =
      let room : 0 < fields_of R * 2 = omega arith in
      le_of_suc-le-suc ((div-lt_iff_lt-mul room).1 (rw row_ends at lt))

-- what is read where a callee said that the low of field f of rule i stands, and one further, under flag f
pub range_read : (s : Shape) (l : List ℕ) (i f at : ℕ) → f < s.d → at ≡ offset_of s.d i f
    → range_of (flag_of s f) (get_or l at 0) (get_or l (at + 1) 0) ≡ range_at (listed s l) i f
unfolding low_of high_of ends_at
range_read s l i f at in_row is-offset = rw (is-offset, date_flag s l f in_row)

-- a product of two numbers of 16 bits, whatever they are
pub square_few : (d i : ℕ) → d < 2 ^ 16 → i < 2 ^ 16 → i * d ≤ 4294836225
square_few d i few-d few-i =
    let a : i ≤ 65535 = omega arith in
    let b : d ≤ 65535 = omega arith in
    mul-le-mul a b
