-- A line's numbers, heard byte by byte (`specs/Lines.antt`), are read as a line of cells is (`read_byte` of the crate text), but for the
-- flags of the first: they are read by themselves, and left out of the cells. `stripped` is the line without them.
--     numbered                        a line whose name has ended, as far as its numbers have been read
--     numbers-heard                   the line's numbers, and the flags of the first
--     first_of, on_first, stripped_cells     the cells of the line without the flags
-- Assumes nothing.
use Prim.Native.Nat.{ℕ, ◌+◌, ◌-◌}
use mathlib.Core.Bool.{Bool, true, false}
use mathlib.Core.List.{List, [], ◌∷◌}
use mathlib.Core.Path.{◌≡◌, refl, sym, ap, ◌∙◌}
use native.Mathlib.Omega.{arith}
use borrow.Author.Tests.{ne_eqb, ltb-false, eqb-true}
use lib.Dec.{ltb, eqb}
use Rattle.ranges.specs.Numbers.{pick}
use Rattle.text.specs.Cells.{fed}
use Rattle.text.specs.Rows.{in_front, cells_in, counted_to, one_more, row_next, Reading, ended, within, read_byte}
use Rattle.hearing.specs.Flags.{number_in, flags_with, has_colon}
use Rattle.hearing.specs.Lines.{Heard, heard, line_of, cell_with, first_with, number_with, number_ends, heard_byte}
use Rattle.ranges.proofs.Numbers.{never}
use Rattle.hearing.specs.declared.line.Line.{Line}
use Rattle.hearing.specs.declared.flags.Flags.{Flags}
use Rattle.hearing.specs.declared.flags.Flags.TheVariants.{Without, Read}
use Rattle.hearing.proofs.Dates.{colon_stays, word_flags}

-- a line whose name has ended at place k of its run, with its numbers as far as they have been read
abbrev pub numbered : ℕ → List ℕ → Flags → Reading → Heard
numbered k name flags r = heard (line_of true k flags r.row) name r.run

-- ---- the line without the flags of its first number
-- what is left where the colon has come
abbrev skipped : List ℕ → List ℕ
skipped [] = []
skipped (b ∷ bs) = pick (eqb b 32) (b ∷ bs) (skipped bs)

abbrev pub stripped : List ℕ → List ℕ
stripped [] = []
stripped (b ∷ bs) = pick (eqb b 32) (b ∷ bs) (pick (eqb b 58) (skipped bs) (b ∷ stripped bs))

-- the first of a line's cells
abbrev pub first_of : List (List ℕ) → List ℕ
first_of [] = []
first_of (c ∷ cs) = c

-- the cells with another first one
abbrev pub on_first : (List ℕ → List ℕ) → List (List ℕ) → List (List ℕ)
on_first g [] = g [] ∷ []
on_first g (c ∷ cs) = g c ∷ cs

first-front : (b : ℕ) (cs : List (List ℕ)) → first_of (in_front b cs) ≡ b ∷ first_of cs
first-front b [] = refl
first-front b (c ∷ cs) = refl

-- of cells whose first is left empty
abbrev emptied : List ℕ → List ℕ
emptied c = []

empty-front : (b : ℕ) (cs : List (List ℕ)) → on_first emptied (in_front b cs) ≡ on_first emptied cs
empty-front b [] = refl
empty-front b (c ∷ cs) = refl

skipped_cells : (l : List ℕ) → cells_in 32 (skipped l) ≡ on_first emptied (cells_in 32 l)
skipped_cells [] = refl
skipped_cells (b ∷ l) = go (eqb b 32) refl (skipped_cells l)
  where
    go : (t : Bool) → eqb b 32 ≡ t → cells_in 32 (skipped l) ≡ on_first emptied (cells_in 32 l)
        → cells_in 32 (pick t (b ∷ l) (skipped l)) ≡ on_first emptied (pick t ([] ∷ cells_in 32 l) (in_front b (cells_in 32 l)))
    go true e rest = rw e
    go false e rest = rest ∙ sym (empty-front b (cells_in 32 l))

colon_front : (cs : List (List ℕ)) → on_first number_in (in_front 58 cs) ≡ on_first emptied cs
colon_front [] = refl
colon_front (c ∷ cs) = refl

number_front : (b : ℕ) (cs : List (List ℕ)) → eqb b 58 ≡ false → on_first number_in (in_front b cs) ≡ in_front b (on_first number_in cs)
number_front b [] e = rw e
number_front b (c ∷ cs) e = rw e

pub stripped_cells : (l : List ℕ) → cells_in 32 (stripped l) ≡ on_first number_in (cells_in 32 l)
stripped_cells [] = refl
stripped_cells (b ∷ l) = go (eqb b 32) (eqb b 58) refl refl (stripped_cells l)
  where
    go : (t u : Bool) → eqb b 32 ≡ t → eqb b 58 ≡ u → cells_in 32 (stripped l) ≡ on_first number_in (cells_in 32 l)
        → cells_in 32 (pick t (b ∷ l) (pick u (skipped l) (b ∷ stripped l))) ≡ on_first number_in (pick t ([] ∷ cells_in 32 l) (in_front b (cells_in 32 l)))
    go true u p q rest = rw p
    go false true p q rest =
        let colon : b ≡ 58 = eqb-true b 58 q in
        skipped_cells l ∙ sym (ap (λ x. on_first number_in (in_front x (cells_in 32 l))) colon ∙ colon_front (cells_in 32 l))
    go false false p q rest = rw p (ap (in_front b) rest ∙ sym (number_front b (cells_in 32 l) q))

-- ---- how the numbers are heard
module _ (k : ℕ) (name : List ℕ) where
  -- a blank ends a number
  blank_heard : (flags : Flags) (r : Reading) (b : ℕ) → eqb b 32 ≡ true → heard_byte (numbered k name flags r) b ≡ numbered k name flags (read_byte 32 0 r b)
  unfolding heard_byte read_byte
  blank_heard flags r b e = rw e

  -- a number after the first
  later_heard : (flags : Flags) (r : Reading) (b : ℕ) → (r.row.cells ≡ 0 → ⊥)
      → heard_byte (numbered k name flags r) b ≡ numbered k name flags (read_byte 32 0 r b)
  unfolding heard_byte number_with read_byte
  later_heard flags r b later = go (eqb b 32) (eqb r.row.cells 0) (ne_eqb r.row.cells 0 later)
    where
      line : Line
      line = line_of true k flags r.row

      go : (t u : Bool) → u ≡ false
          → pick t (number_ends (numbered k name flags r)) (heard (pick u (first_with line b) (cell_with line b)) name r.run)
          ≡ numbered k name flags (pick t (ended 0 r) (within r b))
      go true u e = refl
      go false true e = never (cc)
      go false false e = refl

  -- a cell more is not the first
  some_cells : (c : ℕ) → one_more c ≡ 0 → ⊥
  unfolding one_more
  some_cells c = go (ltb c counted_to) refl
    where
      go : (t : Bool) → ltb c counted_to ≡ t → pick t (c + 1) (c - 1) ≡ 0 → ⊥
      go true e z = omega arith
      go false e z = let many = ltb-false c counted_to e in omega arith

  later_on : (r : Reading) (b : ℕ) → (r.row.cells ≡ 0 → ⊥) → (read_byte 32 0 r b).row.cells ≡ 0 → ⊥
  unfolding read_byte row_next
  later_on r b later = go (eqb b 32)
    where
      go : (t : Bool) → (pick t (ended 0 r) (within r b)).row.cells ≡ 0 → ⊥
      go true = some_cells r.row.cells
      go false = later

  blank_later : (r : Reading) (b : ℕ) → eqb b 32 ≡ true → (read_byte 32 0 r b).row.cells ≡ 0 → ⊥
  unfolding read_byte row_next
  blank_later r b e = rw e (some_cells r.row.cells)

  laters_heard : (l : List ℕ) (flags : Flags) (r : Reading) → (r.row.cells ≡ 0 → ⊥)
      → fed heard_byte (numbered k name flags r) l ≡ numbered k name flags (fed (read_byte 32 0) r l)
  laters_heard [] flags r later = refl
  laters_heard (b ∷ l) flags r later =
      ap (λ s. fed heard_byte s l) (later_heard flags r b later) ∙ laters_heard l flags (read_byte 32 0 r b) (later_on r b later)

  -- the line from a blank on
  blank_on : (b : ℕ) (l : List ℕ) (flags : Flags) (r : Reading) → eqb b 32 ≡ true
      → fed heard_byte (numbered k name flags r) (b ∷ l) ≡ numbered k name flags (fed (read_byte 32 0) r (b ∷ l))
  blank_on b l flags r e =
      ap (λ s. fed heard_byte s l) (blank_heard flags r b e) ∙ laters_heard l flags (read_byte 32 0 r b) (blank_later r b e)

  -- ---- the first number
  flag_heard : (flags : Flags) (r : Reading) (b : ℕ) → has_colon flags ≡ true → r.row.cells ≡ 0 → eqb b 32 ≡ false
      → heard_byte (numbered k name flags r) b ≡ numbered k name (flags_with flags b) r
  unfolding heard_byte number_with
  flag_heard flags r b colon first e = rw (e, first, colon)

  colon_heard : (r : Reading) (b : ℕ) → r.row.cells ≡ 0 → eqb b 32 ≡ false → eqb b 58 ≡ true
      → heard_byte (numbered k name Without r) b ≡ numbered k name (Read 0 0) r
  unfolding heard_byte number_with
  colon_heard r b first e colon = rw (e, first, colon)

  digit_heard : (r : Reading) (b : ℕ) → r.row.cells ≡ 0 → eqb b 32 ≡ false → eqb b 58 ≡ false
      → heard_byte (numbered k name Without r) b ≡ numbered k name Without (read_byte 32 0 r b)
  unfolding heard_byte number_with read_byte
  digit_heard r b first e other = rw (e, first, other)

  digit_first : (r : Reading) (b : ℕ) → r.row.cells ≡ 0 → eqb b 32 ≡ false → (read_byte 32 0 r b).row.cells ≡ 0
  unfolding read_byte
  digit_first r b first e = rw e first

  -- its flags go up to the blank
  flags_heard : (l : List ℕ) (flags : Flags) (r : Reading) → has_colon flags ≡ true → r.row.cells ≡ 0
      → fed heard_byte (numbered k name flags r) l ≡ numbered k name (fed flags_with flags (first_of (cells_in 32 l))) (fed (read_byte 32 0) r (skipped l))
  flags_heard [] flags r colon first = refl
  flags_heard (b ∷ l) flags r colon first = go (eqb b 32) refl (flags_heard l)
    where
      go : (t : Bool) → eqb b 32 ≡ t
          → ((fl : Flags) (q : Reading) → has_colon fl ≡ true → q.row.cells ≡ 0
          → fed heard_byte (numbered k name fl q) l ≡ numbered k name (fed flags_with fl (first_of (cells_in 32 l))) (fed (read_byte 32 0) q (skipped l)))
          → fed heard_byte (numbered k name flags r) (b ∷ l)
          ≡ numbered k name (fed flags_with flags (first_of (pick t ([] ∷ cells_in 32 l) (in_front b (cells_in 32 l))))) (fed (read_byte 32 0) r (pick t (b ∷ l) (skipped l)))
      go true e rest = blank_on b l flags r e
      go false e rest =
          ap (λ s. fed heard_byte s l) (flag_heard flags r b colon first e)
          ∙ rest (flags_with flags b) r (colon_stays flags b colon) first
          ∙ ap (λ c. numbered k name (fed flags_with flags c) (fed (read_byte 32 0) r (skipped l))) (sym (first-front b (cells_in 32 l)))

  pub numbers-heard : (l : List ℕ) (r : Reading) → r.row.cells ≡ 0
      → fed heard_byte (numbered k name Without r) l ≡ numbered k name (word_flags (first_of (cells_in 32 l))) (fed (read_byte 32 0) r (stripped l))
  numbers-heard [] r first = refl
  numbers-heard (b ∷ l) r first = go (eqb b 32) (eqb b 58) refl refl (numbers-heard l)
    where
      go : (t u : Bool) → eqb b 32 ≡ t → eqb b 58 ≡ u
          → ((q : Reading) → q.row.cells ≡ 0
          → fed heard_byte (numbered k name Without q) l ≡ numbered k name (word_flags (first_of (cells_in 32 l))) (fed (read_byte 32 0) q (stripped l)))
          → fed heard_byte (numbered k name Without r) (b ∷ l)
          ≡ numbered k name (word_flags (first_of (pick t ([] ∷ cells_in 32 l) (in_front b (cells_in 32 l)))))
          (fed (read_byte 32 0) r (pick t (b ∷ l) (pick u (skipped l) (b ∷ stripped l))))
      go true u p q rest = blank_on b l Without r p
      go false true p q rest =
          ap (λ s. fed heard_byte s l) (colon_heard r b first p q)
          ∙ flags_heard l (Read 0 0) r refl first
          ∙ rw (first-front b (cells_in 32 l), q)
      go false false p q rest =
          ap (λ s. fed heard_byte s l) (digit_heard r b first p q)
          ∙ rest (read_byte 32 0 r b) (digit_first r b first p)
          ∙ rw (first-front b (cells_in 32 l), q)
