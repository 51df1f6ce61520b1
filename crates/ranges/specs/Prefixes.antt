-- 01, Other answers and Refusal numbers: a prefix, its range, and the refusals 9 and 10.
-- A prefix of a width w is a value and a length: the numbers of w bits that agree with the value in the first
-- length bits, which are 2 ^ (w - length) numbers from the value on.
-- Assumes nothing: these are definitions.
use Rattle.std.specs.Prelude.{ℕ, ◌+◌, ◌-◌, ◌%◌, ◌^◌, Bool, not, Result, [], ◌∷◌, ltb, leb, eqb}
use Rattle.ranges.specs.Numbers.{pick, ◌or◌}
use Rattle.ranges.specs.Refusals.{Refusal, Fault, none, refused, unless, Said, says, BadWidth, BadPrefix}
use Rattle.ranges.specs.declared.prefix.Bounds.{Bounds}

-- 9: the width is not 1 to 32
abbrev pub bad_width : ℕ → Bool
bad_width w = ltb w 1 or ltb 32 w

-- 10: the length is above the width, the value needs more than width bits, or a bit below the prefix is set
abbrev pub bad_prefix : ℕ → ℕ → ℕ → Bool
bad_prefix w value len = ltb w len or leb (2 ^ w) value or not (eqb (value % 2 ^ (w - len)) 0)

-- 9, 10 in this order
unfoldable pub prefix_fault : ℕ → ℕ → ℕ → Fault
prefix_fault w value len =
    pick (bad_width w) (refused BadWidth)
    (pick (bad_prefix w value len) (refused BadPrefix)
    none)

-- the high end: the last of the 2 ^ (w - length) numbers from the value on
abbrev pub last_of : ℕ → ℕ → ℕ → ℕ
last_of w value len = value + (2 ^ (w - len) - 1)

-- the range of a prefix: from its value to the last
abbrev pub bounds_at : ℕ → ℕ → ℕ → Bounds
bounds_at w value len = record { low = value; high = last_of w value len }

-- the same, unless it is refused
-- (width 32, value 0, length 0: 0 to 4294967295; width 5, value 16, length 2: 16 to 23)
abbrev pub bounds_of : ℕ → ℕ → ℕ → Result Bounds Refusal
bounds_of w value len = unless (prefix_fault w value len) (bounds_at w value len)

-- what the answer says in the paper's words: low and high
abbrev pub says_bounds : Result Bounds Refusal → Said
says_bounds bounds = says (λ (b : Bounds). b.low ∷ b.high ∷ []) bounds
