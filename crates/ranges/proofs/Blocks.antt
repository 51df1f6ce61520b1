-- Laws of the largest aligned block (`specs/Blocks.antt`).
--     fits_yes, fits_at, fits_one                    when a block fits; one number does
--     block_at, block_narrow, block_largest          the largest block fits, lies within the width, and no larger one fits
--     high_few, low_few                              what fits a machine's number
-- Assumes nothing.
use Prim.Native.Nat.{ℕ, suc, ◌+◌, ◌%◌, ◌^◌, ◌≤◌, ◌<◌}
use mathlib.Core.Bool.{true}
use mathlib.Core.Path.{◌≡◌}
use native.Mathlib.Omega.{arith}
use native.Mathlib.Nat.{mod-one, lt_of_lt_of_le}
use lib.Dec.{leb, eqb}
use lib.Pow.{pow_mono}
use borrow.Author.Tests.{eq-eqb, le-leb, eqb-true, leb-true}
use Rattle.ranges.specs.Sides.{end_of}
use Rattle.ranges.specs.Blocks.{block_fits, block_of, Ranged}
use Rattle.ranges.proofs.Numbers.{and_left, and_right, greatest-holds}
use Rattle.ranges.proofs.Sides.{high_within}

-- ---- when a block fits
module _ (low high : ℕ) where
  pub fits_yes : (t : ℕ) → low % 2 ^ t ≡ 0 → low + 2 ^ t ≤ end_of high → block_fits low high t ≡ true
  unfolding block_fits
  fits_yes t even stays = rw (eq-eqb (low % 2 ^ t) 0 even, le-leb (low + 2 ^ t) (end_of high) stays)

  pub fits_at : (t : ℕ) → block_fits low high t ≡ true → (low % 2 ^ t ≡ 0) × (low + 2 ^ t ≤ end_of high)
  unfolding block_fits
  fits_at t e =
      let even = eqb (low % 2 ^ t) 0 in
      let stays = leb (low + 2 ^ t) (end_of high) in
      (eqb-true (low % 2 ^ t) 0 (and_left even stays e), leb-true (low + 2 ^ t) (end_of high) (and_right even stays e))

  -- a block of one number
  pub fits_one : low < end_of high → block_fits low high 0 ≡ true
  fits_one lt = fits_yes 0 (mod-one low) (omega arith)

-- ---- the largest block of a range that is not empty
module _ (w low high : ℕ) (within : low < end_of high) where
  holds : (block_fits low high (block_of w low high) ≡ true) × (0 ≤ block_of w low high) × (block_of w low high < suc w)
  unfolding block_of
  holds = greatest-holds (block_fits low high) (suc w) 0 (omega arith) (fits_one low high within)

  -- it is aligned, and stays in the range
  pub block_at : (low % 2 ^ block_of w low high ≡ 0) × (low + 2 ^ block_of w low high ≤ end_of high)
  block_at = fits_at low high (block_of w low high) holds.0

  pub block_narrow : block_of w low high ≤ w
  block_narrow = omega (arith, holds.2)

  -- no larger one does
  pub block_largest : (t : ℕ) → t ≤ w → block_fits low high t ≡ true → t ≤ block_of w low high
  unfolding block_of
  block_largest t le fits = (greatest-holds (block_fits low high) (suc w) t (omega arith) fits).1

-- ---- what fits a machine's number
module _ {w low high : ℕ} (r : Ranged w low high) where
  pub high_few : high < 4294967296
  high_few = lt_of_lt_of_le r.narrow (pow_mono r.few_bits)

  pub low_few : low ≤ high
  low_few = high_within high low r.ordered
