-- Laws of a line heard byte by byte (`specs/Lines.antt`).
--     line_within, line_empty, line_here, line_past, line_ends, line_none     the first LF
--     number_named                                      one byte more of a number: the name has ended all the same
--     heard_all                                         the rest's bytes after the first ones
-- Assumes nothing.
use Prim.Native.Nat.{ℕ, zero, suc, ◌+◌, ◌-◌, ◌≤◌, ◌<◌}
use mathlib.Core.Bool.{Bool, true, false, not}
use mathlib.Core.List.{List, [], ◌∷◌}
use mathlib.Core.Path.{◌≡◌, refl, ap, ◌∙◌}
use native.Mathlib.Omega.{arith}
use borrow.Author.Tests.{eq-eqb, ne_eqb}
use lib.ListN.{length, get_or, take, drop}
use lib.Seq.{take_all}
use lib.Dec.{eqb}
use Rattle.std.specs.List.{prefix_len}
use Rattle.std.proofs.lemmas.List.Folds.{length-prefix_len}
use Rattle.std.proofs.lemmas.List.Sums.{prefix_len-le-length}
use Rattle.ranges.specs.Numbers.{pick}
use Rattle.hearing.specs.declared.line.Line.{Line}
use Rattle.hearing.specs.Flags.{flags_with, has_colon}
use Rattle.text.specs.Cells.{fed}
use Rattle.text.proofs.Feeding.{fed_rest}
use Rattle.hearing.specs.Lines.{Heard, heard_byte, HeardFirst, line_in, cell_with, flagged, number_with}
use Rattle.hearing.specs.declared.flags.Flags.TheVariants.{Read}

-- ---- the first LF
abbrev before : List ℕ → ℕ
before bs = prefix_len (λ b. not (eqb b 10)) bs

line_counts : (bs : List ℕ) → line_in bs ≡ before bs
unfolding line_in
line_counts bs = length-prefix_len (λ b. not (eqb b 10)) bs

-- no more bytes stand before it than there are
pub line_within : (bs : List ℕ) → line_in bs ≤ length bs
line_within bs = rw (line_counts bs) (prefix_len-le-length (λ b. not (eqb b 10)) bs)

-- of no bytes, at the first byte, or past it
pub line_empty : line_in [] ≡ 0
line_empty = line_counts []

pub line_here : (b : ℕ) (bs : List ℕ) → eqb b 10 ≡ true → line_in (b ∷ bs) ≡ 0
line_here b bs e = rw (line_counts (b ∷ bs), e)

pub line_past : (b : ℕ) (bs : List ℕ) → eqb b 10 ≡ false → line_in (b ∷ bs) ≡ suc (line_in bs)
line_past b bs e =
    let one : before (b ∷ bs) ≡ 1 + before bs = rw e in
    omega (arith, one, line_counts (b ∷ bs), line_counts bs)

-- the place of the first LF; with none, past the last byte
pub line_ends : (bs : List ℕ) (i : ℕ) → i < length bs → ((k : ℕ) → k < i → get_or bs k 0 ≡ 10 → ⊥) → get_or bs i 0 ≡ 10 → line_in bs ≡ i
line_ends [] i lt none here = absurd (omega arith)
line_ends (b ∷ bs) zero lt none here = line_here b bs (eq-eqb b 10 here)
line_ends (b ∷ bs) (suc i) lt none here =
    line_past b bs (ne_eqb b 10 (none 0 (omega arith))) ∙ ap suc (line_ends bs i (omega arith) (λ k l. none (suc k) (omega arith)) here)

pub line_none : (bs : List ℕ) → ((k : ℕ) → k < length bs → get_or bs k 0 ≡ 10 → ⊥) → line_in bs ≡ length bs
line_none [] none = line_empty
line_none (b ∷ bs) none =
    line_past b bs (ne_eqb b 10 (none 0 (omega arith))) ∙ ap suc (line_none bs (λ k l. none (suc k) (omega arith)))

-- ---- one byte more of a number
-- the name has ended all the same
pub number_named : (line : Line) (b : ℕ) → (number_with line b).named ≡ true
unfolding number_with
number_named line b = go (eqb line.row.cells 0) (has_colon line.flags) (eqb b 58)
  where
    go : (s t u : Bool)
        → (pick s (pick t (flagged line (flags_with line.flags b)) (pick u (flagged line (Read 0 0)) (cell_with line b))) (cell_with line b)).named ≡ true
    go true true u = refl
    go true false true = refl
    go true false false = refl
    go false t u = refl

-- ---- bytes
abbrev pub rest_of : List ℕ → ℕ → List ℕ
rest_of bytes count = take (length bytes - count) (drop count bytes)

-- the rest's bytes after the first ones
pub heard_all : {s t u : Heard} {bytes : List ℕ} {count : ℕ} (k : ℕ) → HeardFirst s bytes count t → u ≡ fed heard_byte t (take k (rest_of bytes count))
    → length (rest_of bytes count) ≤ k → u ≡ fed heard_byte s bytes
heard_all {s} {t} {u} {bytes} {count} k first more all =
    more
    ∙ ap (fed heard_byte t) (take_all k (rest_of bytes count) all)
    ∙ ap (λ h. fed heard_byte h (rest_of bytes count)) first.left
    ∙ fed_rest heard_byte s bytes count
