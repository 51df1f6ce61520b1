-- Numbers of 16 bits (`all_narrow` of `specs/Parts.antt`), written one by one to a table of as many.
--     narrow_by, narrow_at                            whether every number is one
--     Narrowed, narrowed_all                          the first i are written
--     room_enough                                     the room that they are written to
-- Assumes nothing.
use Prim.Native.Nat.{ℕ, ◌≤◌, ◌<◌}
use mathlib.Core.Bool.{Bool, true, false}
use mathlib.Core.List.{List}
use mathlib.Core.Path.{◌≡◌, sym, refl}
use native.Mathlib.Omega.{arith}
use borrow.Author.Tests.{le-leb, leb-true}
use lib.ListN.{length, get_or, take, replicate, length-replicate}
use lib.Seq.{ext_get_or, length-take-le}
use lib.Dec.{leb}
use Rattle.std.specs.Prelude.{◌↔◌, IsTrue, EachIndex, slice_index}
use Rattle.ranges.specs.Numbers.{all}
use Rattle.ranges.proofs.Numbers.{all_yes, all_at}
use Rattle.words.specs.Limits.{table_most}
use Rattle.words.specs.Parts.{all_narrow}

-- ---- whether every number is one
module _ (ns : List ℕ) where
  -- t is whether each is, as a callee told
  pub narrow_by : (t : Bool) → (IsTrue t ↔ EachIndex ns (λ k. slice_index ns k ≤ 65535)) → t ≡ all_narrow ns
  unfolding all_narrow
  narrow_by true told = sym (all_yes (λ k. leb (get_or ns k 0) 65535) (length ns) (λ k lt. le-leb (get_or ns k 0) 65535 (told.0 refl k lt)))
  narrow_by false told = go (all (length ns) (λ k. leb (get_or ns k 0) 65535)) refl
    where
      go : (t : Bool) → all (length ns) (λ k. leb (get_or ns k 0) 65535) ≡ t → false ≡ t
      go true e = told.1 (λ k lt. leb-true (get_or ns k 0) 65535 (all_at (λ j. leb (get_or ns j 0) 65535) (length ns) e k lt))
      go false e = refl

  pub narrow_at : all_narrow ns ≡ true → (k : ℕ) → k < length ns → get_or ns k 0 ≤ 65535
  unfolding all_narrow
  narrow_at is k lt = leb-true (get_or ns k 0) 65535 (all_at (λ j. leb (get_or ns j 0) 65535) (length ns) is k lt)

-- ---- their writing
-- the first i numbers are written to a table of as many
pub record Narrowed (ns T : List ℕ) (i : ℕ) : Type 0 where
  pub few : i ≤ length ns
  pub long : length T ≡ length ns
  pub written : (k : ℕ) → k < i → get_or T k 0 ≡ get_or ns k 0

pub narrowed_all : {ns T : List ℕ} {i : ℕ} → Narrowed ns T i → length ns ≤ i → T ≡ ns
narrowed_all {ns} {T} {i} so le = ext_get_or 0 T ns so.long (λ k lt. so.written k (omega (arith, so.long)))

-- ---- the room
-- room for them: the first part of a run of m numbers, as many as a table has at most
pub room_enough : (ns : List ℕ) {m : ℕ} → table_most ≡ m → length ns ≤ table_most → length ns ≡ length (take (length ns) (replicate {A = ℕ} m 0))
room_enough ns {m} is few =
    let zeros : List ℕ = replicate m 0 in
    sym (length-take-le (length ns) zeros (omega (arith, is, length-replicate {A = ℕ} m 0)))
