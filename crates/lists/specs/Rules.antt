-- 01, Lists and headers: a list of rules, and what stands where in it; 02, W8: which fields are dates.
-- The list and its shape go through all definitions as one record, `Rules`, which holds the flags of the d fields and no others.
-- Everything that speaks of a rule's range in a field goes through `low_of` and `ends_at`, the first number past it; proofs use the
-- laws of `proofs/Rules.antt` and `proofs/Dates.antt`.
-- Assumes nothing: these are definitions.
use Rattle.std.specs.Prelude.{ℕ, ◌+◌, ◌*◌, ◌/◌, ◌%◌, ◌^◌, ◌≤◌, Bool, List, ◌≡◌, ltb, eqb, length, get_or, take}
use Rattle.ranges.specs.Numbers.{◌and◌, bit, tab}
use Rattle.ranges.specs.Sides.{past_of, void_of}
use Rattle.ranges.specs.declared.side.Range.{Range}
use Rattle.lists.specs.declared.shape.Shape.{Shape}
use Rattle.lists.specs.declared.shape.RuleList.{RuleList}
use Rattle.lists.specs.Limits.{most_fields, most_rules, full_length}

-- the shape of a list of d fields a rule, none of them a date
abbrev pub shape_of : ℕ → Shape
shape_of d = record { d = d; dates = 0 }

-- flag f of a shape is set: field f is a date. There are eight flags, the bits of a number, the lowest that of field 0
unfoldable pub flag_of : Shape → ℕ → Bool
flag_of s f = ltb f most_fields and eqb (s.dates / 2 ^ f % 2) 1

-- which of the d fields are dates, 1 for a date and 0 for another: flags past d are not among them, and alter nothing
unfoldable pub dates_in : Shape → List ℕ
dates_in s = tab s.d (λ f. bit (flag_of s f))

-- a list as lent, with what gives its numbers their meaning: d, and which fields are dates
pub record Rules : Type 0 where
  pub d : ℕ
  pub dates : List ℕ
  pub numbers : List ℕ

abbrev pub listed : Shape → List ℕ → Rules
listed s l = record { d = s.d; dates = dates_in s; numbers = l }

-- the rules of a list as it is lent
abbrev pub lent : RuleList → Rules
lent l = listed l.shape l.numbers.now

-- d, the number of fields
abbrev pub fields_of : Rules → ℕ
fields_of R = R.d

-- field f is a date
unfoldable pub is_date : Rules → ℕ → Bool
is_date R f = eqb (get_or R.dates f 0) 1

-- n, the number of rules: 2d numbers a rule
unfoldable pub rules_in : Rules → ℕ
rules_in R = length R.numbers / (fields_of R * 2)

-- where the low of field f of rule i stands, for rules of d fields; its high stands one further
-- (in the bench list, d = 2, field 1 of rule 3 stands at 14 and 15)
unfoldable pub offset_of : ℕ → ℕ → ℕ → ℕ
offset_of d i f = (i * d + f) * 2

-- the low end of rule i in field f
unfoldable pub low_of : Rules → ℕ → ℕ → ℕ
low_of R i f = get_or R.numbers (offset_of (fields_of R) i f) 0

-- its high end
unfoldable pub high_of : Rules → ℕ → ℕ → ℕ
high_of R i f = get_or R.numbers (offset_of (fields_of R) i f + 1) 0

-- the first number past its range; nothing else says how a rule's range ends
unfoldable pub ends_at : Rules → ℕ → ℕ → ℕ
ends_at R i f = past_of (is_date R f) (high_of R i f)

-- its range
abbrev pub range_at : Rules → ℕ → ℕ → Range
range_at R i f = record { low = low_of R i f; past = ends_at R i f }

-- the range holds no number: low > high, of a date low ≥ high
abbrev pub is_void : Rules → ℕ → ℕ → Bool
is_void R i f = void_of (low_of R i f) (ends_at R i f)

-- the first k rules of a list
abbrev pub first_rules : ℕ → Rules → Rules
first_rules k R = record { d = R.d; dates = R.dates; numbers = take (k * R.d * 2) R.numbers }

-- how many rules are live: all
abbrev pub live_in : Rules → ℕ
live_in R = rules_in R

-- a list of the full length, with room for the most rules: neither 1 nor 2 applies to it
pub record Roomy (R : Rules) : Type 0 where
  pub some_fields : 1 ≤ fields_of R
  pub few_fields : fields_of R ≤ most_fields
  pub long : length R.numbers ≡ full_length (fields_of R)

-- a list whose shape stands: none of 1, 2, 3 applies to it
pub record Shaped (R : Rules) : Type 0 where
  pub some_fields : 1 ≤ fields_of R
  pub few_fields : fields_of R ≤ most_fields
  pub whole : length R.numbers ≡ rules_in R * fields_of R * 2
  pub few_rules : rules_in R ≤ most_rules
