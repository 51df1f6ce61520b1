-- Laws of the prefixes of a range (`specs/Blocks.antt`): none for an empty range, else the largest block and the prefixes of what is
-- left. Whoever reasons on the prefixes goes by these two, and by induction on how many numbers are left.
--     first_of, next_of                      the first prefix of a range, and where the next one starts
--     prefixes_done, prefixes_more         the two laws
-- Assumes nothing.
use Prim.Native.Nat.{ℕ, zero, suc, ◌+◌, ◌-◌, ◌^◌, ◌≤◌, ◌<◌}
use mathlib.Core.Bool.{Bool, true, false}
use mathlib.Core.List.{[], ◌∷◌}
use mathlib.Core.Path.{◌≡◌, refl, sym, ap, ◌∙◌}
use native.Mathlib.Omega.{arith}
use lib.Dec.{leb}
use lib.Pow.{pow_pos}
use borrow.Author.Tests.{le-leb, lt-leb, leb-true, leb-false}
use Rattle.ranges.specs.Sides.{end_of}
use Rattle.ranges.specs.Blocks.{Prefix, block_of, prefixes_from, prefixes_of}

-- the first prefix of a range
abbrev pub first_of : ℕ → ℕ → ℕ → Prefix
first_of w low high = record { value = low; length = w - block_of w low high }

-- where the next block starts
abbrev pub next_of : ℕ → ℕ → ℕ → ℕ
next_of w low high = low + 2 ^ block_of w low high

module _ (w high : ℕ) where
  from_done : (k low : ℕ) → end_of high ≤ low → prefixes_from k w low high ≡ []
  unfolding prefixes_from
  from_done zero low past = refl
  from_done (suc k) low past = rw (le-leb (end_of high) low past)

  from_more : (k low : ℕ) → low < end_of high → prefixes_from (suc k) w low high ≡ first_of w low high ∷ prefixes_from k w (next_of w low high) high
  unfolding prefixes_from
  from_more k low within = rw (lt-leb (end_of high) low within)

  -- more turns than numbers are left alter nothing
  from_enough : (j k low : ℕ) → end_of high ≤ low + j → end_of high ≤ low + k → prefixes_from j w low high ≡ prefixes_from k w low high
  from_enough zero k low past enough =
      let over : end_of high ≤ low = omega arith in
      from_done zero low over ∙ sym (from_done k low over)
  from_enough (suc j) zero low enough past =
      let over : end_of high ≤ low = omega arith in
      from_done (suc j) low over ∙ sym (from_done zero low over)
  from_enough (suc j) (suc k) low enough-j enough-k =
      go (leb (end_of high) low) refl (from_enough j k (next_of w low high) (omega (arith, pow_pos (block_of w low high))) (omega (arith, pow_pos (block_of w low high))))
    where
      go : (b : Bool) → leb (end_of high) low ≡ b → prefixes_from j w (next_of w low high) high ≡ prefixes_from k w (next_of w low high) high
          → prefixes_from (suc j) w low high ≡ prefixes_from (suc k) w low high
      go true e rest =
          let over : end_of high ≤ low = leb-true (end_of high) low e in
          from_done (suc j) low over ∙ sym (from_done (suc k) low over)
      go false e rest =
          let within : low < end_of high = leb-false (end_of high) low e in
          from_more j low within ∙ ap (λ ps. first_of w low high ∷ ps) rest ∙ sym (from_more k low within)

module _ (w low high : ℕ) where
  -- an empty range has none
  pub prefixes_done : end_of high ≤ low → prefixes_of w low high ≡ []
  unfolding prefixes_of
  prefixes_done past = from_done w high (end_of high - low) low past

  -- else the largest block, and the prefixes of what is left
  pub prefixes_more : low < end_of high → prefixes_of w low high ≡ first_of w low high ∷ prefixes_of w (next_of w low high) high
  unfolding prefixes_of
  prefixes_more within =
      let next = next_of w low high in
      let m = end_of high - low - 1 in
      let turns : end_of high - low ≡ suc m = omega arith in
      ap (λ k. prefixes_from k w low high) turns ∙ from_more w high m low within
      ∙ ap (λ ps. first_of w low high ∷ ps) (from_enough w high m (end_of high - next) next (omega (arith, pow_pos (block_of w low high))) (omega arith))
