-- 02, W8: the flags of D as a line of calls has them, D:FFFFFFFF: a colon and eight characters 0 or 1, the first for field 0.
-- `flags_in` says what a whole word's flags come to, and `number_in` what is left of it. `flags_with` says the same byte by byte, as the
-- code goes; that the two agree is `flags_are` of `proofs/Dates.antt`. 48 is 0, 49 is 1, 58 is the colon.
-- Assumes nothing: these are definitions.
use Rattle.std.specs.Prelude.{ℕ, ◌+◌, ◌*◌, ◌/◌, Bool, true, false, List, [], ◌∷◌, leb, eqb, length}
use Rattle.ranges.specs.Numbers.{pick, ◌and◌, ◌or◌, bit}
use Rattle.hearing.specs.declared.flags.Flags.{Flags}
use Rattle.hearing.specs.declared.flags.Flags.TheVariants.{Without, Read, Bad}

-- how many flags there are, as many as fields
abbrev pub flag_count : ℕ
flag_count = 8

-- ---- a whole word
-- every byte is 0 or 1
abbrev pub all_flags : List ℕ → Bool
all_flags [] = true
all_flags (b ∷ bs) = (eqb b 48 or eqb b 49) and all_flags bs

-- 1 for the character 1
abbrev pub one_of : ℕ → ℕ
one_of b = bit (eqb b 49)

-- the flags as a number with one more, x: it moves those before it down by a bit and comes to stand in the eighth
abbrev pub next_flag : ℕ → ℕ → ℕ
next_flag v x = v / 2 + x * 128

-- with these more: of eight the first stands lowest (of 1, 1, 0, 0, 0, 0, 0, 0 it is 3)
abbrev pub dates_from : ℕ → List ℕ → ℕ
dates_from v [] = v
dates_from v (b ∷ bs) = dates_from (next_flag v (one_of b)) bs

-- what the bytes after a colon come to: eight flags, or bad ones
unfoldable pub whole_flags : List ℕ → Flags
whole_flags bs = pick (eqb (length bs) flag_count and all_flags bs) (Read flag_count (dates_from 0 bs)) Bad

-- the flags of a word: none where it has no colon
abbrev pub flags_in : List ℕ → Flags
flags_in [] = Without
flags_in (b ∷ bs) = pick (eqb b 58) (whole_flags bs) (flags_in bs)

-- the bytes of its number, which stand before the colon
abbrev pub number_in : List ℕ → List ℕ
number_in [] = []
number_in (b ∷ bs) = pick (eqb b 58) [] (b ∷ number_in bs)

-- the flags that are set, as a number
abbrev pub dates_of : Flags → ℕ
dates_of Without = 0
dates_of (Read c v) = v
dates_of Bad = 0

-- ---- byte by byte
-- with one flag more, where c have come
unfoldable pub flag_with : ℕ → ℕ → ℕ → Flags
flag_with c v b =
    pick (leb flag_count c) Bad
    (pick (eqb b 48) (Read (c + 1) (next_flag v 0))
    (pick (eqb b 49) (Read (c + 1) (next_flag v 1))
    Bad))

-- with one byte more
abbrev pub flags_with : Flags → ℕ → Flags
flags_with Without b = Without
flags_with (Read c v) b = flag_with c v b
flags_with Bad b = Bad

-- a colon has come
abbrev pub has_colon : Flags → Bool
has_colon Without = false
has_colon (Read c v) = true
has_colon Bad = true

-- at the word's end fewer than eight are bad
unfoldable pub all_read : ℕ → ℕ → Flags
all_read c v = pick (eqb c flag_count) (Read c v) Bad

abbrev pub flags_ended : Flags → Flags
flags_ended Without = Without
flags_ended (Read c v) = all_read c v
flags_ended Bad = Bad
