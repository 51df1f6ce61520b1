-- 01, Other answers: a range as prefixes. From the low end, always the largest aligned block that stays in the
-- range; pairs (value, length) in ascending order. And the refusals 9, 11, 12.
-- Proofs use the laws of `proofs/Blocks.antt`.
-- Assumes nothing: these are definitions.
use Rattle.std.specs.Prelude.{ℕ, zero, suc, Result, ◌+◌, ◌-◌, ◌*◌, ◌/◌, ◌%◌, ◌^◌, ◌≤◌, ◌<◌, Bool, List, [], ◌∷◌, ◌++◌, length, drop, ltb, leb, eqb}
use Rattle.ranges.specs.Numbers.{pick, ◌and◌, ◌or◌, greatest}
use Rattle.ranges.specs.Sides.{end_of}
use Rattle.ranges.specs.Refusals.{Refusal, Fault, none, refused, refused_at, or_else, stands, unless, BadWidth, BadRange, TooLittleRoom}
use Rattle.ranges.specs.Prefixes.{bad_width}

-- the block of 2 ^ t numbers from low on is aligned and stays in the range low to high
unfoldable pub block_fits : ℕ → ℕ → ℕ → Bool
block_fits low high t = eqb (low % 2 ^ t) 0 and leb (low + 2 ^ t) (end_of high)

-- the largest such block within w bits, by its exponent t
-- (width 5: from 1 it is 0, from 2 to 30 it is 1, from 16 to 23 it is 3)
unfoldable pub block_of : ℕ → ℕ → ℕ → ℕ
block_of w low high = greatest (suc w) (block_fits low high)

-- a prefix: its value and its length
pub record Prefix : Type 0 where
  pub value : ℕ
  pub length : ℕ

-- the prefixes of low to high, from the low end, the largest block first; k bounds how many
unfoldable pub prefixes_from : ℕ → ℕ → ℕ → ℕ → List Prefix
prefixes_from zero w low high = []
prefixes_from (suc k) w low high =
    let all : List Prefix = record { value = low; length = w - block_of w low high } ∷ prefixes_from k w (low + 2 ^ block_of w low high) high in
    pick (leb (end_of high) low) [] all

-- the prefixes of low to high: no more than it has numbers, since each block has one at least
-- (width 5, 16 to 23: (16, 2))
unfoldable pub prefixes_of : ℕ → ℕ → ℕ → List Prefix
prefixes_of w low high = prefixes_from (end_of high - low) w low high

-- 11: the range has low > high, or high needs more than width bits
abbrev pub bad_range : ℕ → ℕ → ℕ → Bool
bad_range w low high = leb (end_of high) low or leb (2 ^ w) high

-- a range of w bits that meets neither 9 nor 11
pub record Ranged (w low high : ℕ) : Type 0 where
  pub some_bits : 1 ≤ w
  pub few_bits : w ≤ 32
  pub ordered : low < end_of high
  pub narrow : high < 2 ^ w

-- 9, 11 in this order
unfoldable pub range_fault : ℕ → ℕ → ℕ → Fault
range_fault w low high =
    pick (bad_width w) (refused BadWidth)
    (pick (bad_range w low high) (refused BadRange)
    none)

-- 12: fewer places lent than prefixes to write; a run's places are half its length, rounded down
abbrev pub room_fault : ℕ → List ℕ → Fault
room_fault needed run = pick (ltb (length run / 2) needed) (refused_at TooLittleRoom needed 0) none

-- 9, 11, 12 in this order
abbrev pub expand_fault : ℕ → ℕ → ℕ → List ℕ → Fault
expand_fault w low high run = or_else (range_fault w low high) (room_fault (length (prefixes_of w low high)) run)

-- how many prefixes, unless something is refused
abbrev pub expand_of : ℕ → ℕ → ℕ → List ℕ → Result ℕ Refusal
expand_of w low high run = unless (expand_fault w low high run) (length (prefixes_of w low high))

-- the pairs as numbers of a run
abbrev pub flat : List Prefix → List ℕ
flat [] = []
flat (p ∷ ps) = p.value ∷ p.length ∷ flat ps

-- a run with these pairs at its front; the numbers past the last pair stay
unfoldable pub written : List Prefix → List ℕ → List ℕ
written ps run = flat ps ++ drop (length ps * 2) run

-- the run afterwards: with the pairs at its front, or as lent where something is refused
abbrev pub run_after : ℕ → ℕ → ℕ → List ℕ → List ℕ
run_after w low high run = pick (stands (expand_fault w low high run)) (written (prefixes_of w low high) run) run
