-- A local of m zeros, of which the first n are lent to be written: what is lent, and what stands there afterwards.
--     room_long                          as many are lent as asked for
--     back_fits, back_long, back_is      what was written, with the rest of the local after it
-- Assumes nothing.
use Prim.Native.Nat.{ℕ, ◌≤◌}
use mathlib.Core.List.{List, ◌++◌}
use mathlib.Core.Path.{◌≡◌, sym}
use native.Mathlib.Omega.{arith}
use lib.ListN.{length, take, replicate, length-append, length-replicate}
use lib.Seq.{take_at, length-take-le}

pub room_long : (m n : ℕ) → n ≤ m → n ≡ length (take n (replicate {A = ℕ} m 0))
room_long m n few =
    let zeros : List ℕ = replicate m 0 in
    sym (length-take-le n zeros (omega (arith, length-replicate {A = ℕ} m 0)))

module _ (written : List ℕ) {n : ℕ} (long : length written ≡ n) (rest : List ℕ) where
  pub back_fits : n ≤ length (written ++ rest)
  back_fits = rw length-append (omega arith)

  pub back_long : n ≡ length (take n (written ++ rest))
  back_long = sym (length-take-le n (written ++ rest) back_fits)

  pub back_is : take n (written ++ rest) ≡ written
  back_is = take_at written rest n long
