-- The rest of a run from a place on, as it is lent.
-- Assumes nothing.
use Prim.Native.Nat.{ℕ, ◌-◌, ◌≤◌}
use mathlib.Core.List.{List, ◌++◌, append-nil}
use mathlib.Core.Path.{◌≡◌, sym}
use native.Mathlib.Omega.{arith}
use lib.ListN.{length, take, drop, length-take, length-drop}
use lib.Seq.{take_all, drop-length}
use borrow.Rule.Slice.PartMut.{put_mid}

-- it is what stands there
pub rest_lent : (xs : List ℕ) (a : ℕ) → take (length xs - a) (drop a xs) ≡ drop a xs
rest_lent xs a =
    let all : length (drop a xs) ≤ length xs - a = omega (arith, length-drop a xs) in
    take_all (length xs - a) (drop a xs) all

pub rest_long : (xs : List ℕ) (a : ℕ) → length (take (length xs - a) (drop a xs)) ≡ length xs - a
rest_long xs a = simp (length-take, length-drop) (omega arith)

-- put back as ys, it stands after what was not lent
pub rest_back : (xs ys : List ℕ) (a : ℕ) → put_mid a (length xs - a) xs ys ≡ take a xs ++ ys
rest_back xs ys a =
    rw (sym (length-drop a xs), drop-length (drop a xs), append-nil ys)
