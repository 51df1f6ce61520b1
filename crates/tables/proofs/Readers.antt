-- Numbers of a table as the code reads them (`src/read.rt`): at an offset that a callee gave.
--     read_at                            what is read, at an offset that a callee gave
--     part_spans                         what it means that a partition is not broken by its starts
-- Assumes nothing.
use Prim.Native.Nat.{ℕ, suc, ◌≤◌, ◌<◌}
use mathlib.Core.Bool.{true}
use mathlib.Core.List.{List}
use mathlib.Core.Path.{◌≡◌, ap, ◌∙◌}
use lib.ListN.{get_or}
use lib.Dec.{ltb, leb}
use borrow.Author.Tests.{ltb-true, leb-true}
use Rattle.ranges.proofs.Numbers.{and_left, and_right}
use Rattle.tables.specs.Opening.{part_stands}

-- r is what was read, at k as a callee gave it
pub read_at : (T : List ℕ) {r k at : ℕ} → r ≡ get_or T k 0 → k ≡ at → r ≡ get_or T at 0
read_at T is_r is-k = is_r ∙ ap (λ m. get_or T m 0) is-k

pub part_spans : (n : ℕ) (start : ℕ → ℕ) (q : ℕ) → part_stands n start q ≡ true → (start q < start (suc q)) × (start (suc q) ≤ n)
part_spans n start q e =
    let s = start q in
    let t = start (suc q) in
    (ltb-true s t (and_left (ltb s t) (leb t n) e), leb-true t n (and_right (ltb s t) (leb t n) e))
