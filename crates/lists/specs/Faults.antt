-- 01, Refusal numbers: the refusals 1 to 4 of a list, in their order.
-- Assumes nothing: these are definitions.
use Rattle.std.specs.Prelude.{ℕ, ◌*◌, ◌%◌, Bool, not, length, ltb, eqb}
use Rattle.ranges.specs.Numbers.{pick, ◌and◌, ◌or◌, all, least}
use Rattle.ranges.specs.Refusals.{Fault, none, refused, refused_at, or_else}
use Rattle.ranges.specs.declared.refusal.Cause.TheVariants.{BadFields, BadLength, TooManyRules, LowAboveHigh}
use Rattle.lists.specs.Limits.{most_fields, most_rules, full_length}
use Rattle.lists.specs.Rules.{Rules, fields_of, rules_in, is_void}

-- 1: d is not 1 to 8
abbrev pub bad_fields : Rules → Bool
bad_fields R = ltb (fields_of R) 1 or ltb most_fields (fields_of R)

-- d is 1 to 8, and the list has a rule i
unfoldable pub in_list : Rules → ℕ → Bool
in_list R i = not (bad_fields R) and ltb i (rules_in R)

-- 2: the list's length is no multiple of 2d
abbrev pub bad_length : Rules → Bool
bad_length R = not (eqb (length R.numbers % (fields_of R * 2)) 0)

-- 3: more than 1,024 rules
abbrev pub too_many_rules : Rules → Bool
too_many_rules R = ltb most_rules (rules_in R)

-- of a list that is lent in full, 02, W7: 1, and 2 where its length is not the full one
unfoldable pub room_fault : Rules → Fault
room_fault R =
    pick (bad_fields R) (refused BadFields)
    (pick (eqb (length R.numbers) (full_length (fields_of R))) none (refused BadLength))

-- 1, 2, 3 in this order
unfoldable pub shape_fault : Rules → Fault
shape_fault R =
    pick (bad_fields R) (refused BadFields)
    (pick (bad_length R) (refused BadLength)
    (pick (too_many_rules R) (refused TooManyRules)
    none))

-- every range of rule i holds a number
abbrev pub sound_rule : Rules → ℕ → Bool
sound_rule R i = all (fields_of R) (λ f. not (is_void R i f))

-- the smallest rule number with a range that holds no number, and n where there is none
unfoldable pub bad_rule : Rules → ℕ
bad_rule R = least (rules_in R) (λ i. not (sound_rule R i))

-- 4: some range holds no number; its place is the smallest such rule number, then its smallest such field
unfoldable pub ends_fault : Rules → Fault
ends_fault R =
    pick (ltb (bad_rule R) (rules_in R))
    (refused_at LowAboveHigh (bad_rule R) (least (fields_of R) (is_void R (bad_rule R))))
    none

-- 1, 2, 3, 4 in this order
abbrev pub list_fault : Rules → Fault
list_fault R = or_else (shape_fault R) (ends_fault R)
