-- Laws of the flaws of a rules file (`specs/Flaws.antt`).
--     number_none                  which number none has
--     first_fine                   the first of two flaws
--     Fine, fine_line, even_first  a line without flaw
-- Assumes nothing.
use Prim.Native.Nat.{ℕ, ◌+◌, ◌%◌, ◌≤◌, ◌<◌}
use mathlib.Core.Bool.{Bool, true, false}
use mathlib.Core.Path.{◌≡◌, refl}
use native.Mathlib.Omega.{arith}
use borrow.Author.Tests.{eqb-true, eqb-false, ltb-false, leb-false}
use lib.Dec.{ltb, leb, eqb}
use Rattle.std.specs.Prelude.{Option, None, Some}
use Rattle.ranges.specs.Numbers.{pick}
use Rattle.lists.specs.Limits.{most_rules}
use Rattle.rulesfile.specs.Faults.{most_cells}
use Rattle.rulesfile.specs.Flaws.{first_flaw, width_flaw, cells_flaw, line_flaw}
use Rattle.flaws.specs.Numbered.{number_of_flaw}
use Rattle.flaws.specs.declared.flaw.Flaw.{Flaw}
use Rattle.flaws.specs.declared.flaw.Flaw.TheVariants.{NoLine, NotNumber, LoneFeed, OtherWidth, OddWidth, TooWide, TooManyRules, LowAboveHigh}

-- no flaw has the number 0
pub number_none : (f : Option Flaw) → number_of_flaw f ≡ 0 → f ≡ None
number_none None e = refl
number_none (Some NoLine) e = absurd (omega arith)
number_none (Some (NotNumber line cell)) e = absurd (omega arith)
number_none (Some LoneFeed) e = absurd (omega arith)
number_none (Some (OtherWidth line cells width)) e = absurd (omega arith)
number_none (Some (OddWidth cells)) e = absurd (omega arith)
number_none (Some (TooWide cells)) e = absurd (omega arith)
number_none (Some TooManyRules) e = absurd (omega arith)
number_none (Some (LowAboveHigh rule field low high)) e = absurd (omega arith)

-- there is none only where neither is one
pub first_fine : (f g : Option Flaw) → first_flaw f g ≡ None → f ≡ None
first_fine None g none = refl
first_fine (Some flaw) g none = none

-- ---- the first line's width
width_fine : (k : ℕ) → width_flaw k ≡ None → k ≤ most_cells
unfolding width_flaw
width_fine k none = go (eqb (k % 2) 1) (ltb most_cells k) refl none
  where
    go : (s t : Bool) → ltb most_cells k ≡ t → pick s (Some (OddWidth k)) (pick t (Some (TooWide k)) None) ≡ None → k ≤ most_cells
    go true t q e = absurd (cc)
    go false true q e = absurd (cc)
    go false false q e = ltb-false most_cells k q

-- it is even
width_even : (k : ℕ) → width_flaw k ≡ None → k % 2 ≡ 0
unfolding width_flaw
width_even k none = go (eqb (k % 2) 1) (ltb most_cells k) refl none
  where
    go : (s t : Bool) → eqb (k % 2) 1 ≡ s → pick s (Some (OddWidth k)) (pick t (Some (TooWide k)) None) ≡ None → k % 2 ≡ 0
    go true t p e = absurd (cc)
    go false t p e = let even : k % 2 ≡ 1 → ⊥ = eqb-false (k % 2) 1 p in omega arith

-- ---- a line
-- without flaw: it is one of the first 1,024, its cells are numbers, and as many as the first line's, which are at most 16
pub record Fine (i w : ℕ) (bad : Option ℕ) (k : ℕ) : Type 0 where
  pub few : i < most_rules
  pub numbers : bad ≡ None
  pub first : i ≡ 0 → k ≤ most_cells
  pub later : (i ≡ 0 → ⊥) → k ≡ w

pub fine_line : (i w : ℕ) (feed : Bool) (bad : Option ℕ) (k : ℕ) → line_flaw i w feed bad k ≡ None → Fine i w bad k
unfolding line_flaw
fine_line i w feed bad k none = many (leb most_rules i) refl none
  where
    widths : (z s : Bool) → eqb i 0 ≡ z → eqb k w ≡ s → i < most_rules → pick z (width_flaw k) (pick s None (Some (OtherWidth (i + 1) k w))) ≡ None → Fine i w None k
    widths true s r t few e = record { few = few; numbers = refl; first = λ first. width_fine k e; later = λ other. absurd (other (eqb-true i 0 r)) }
    widths false true r t few e = record { few = few; numbers = refl; first = λ first. absurd (eqb-false i 0 r first); later = λ other. eqb-true k w t }
    widths false false r t few e = absurd (cc)

    cells : (b : Option ℕ) → i < most_rules → cells_flaw i w feed b k ≡ None → Fine i w b k
    cells None few e = widths (eqb i 0) (eqb k w) refl refl few e
    cells (Some b) few e = absurd (cc)

    many : (m : Bool) → leb most_rules i ≡ m → pick m (Some TooManyRules) (cells_flaw i w feed bad k) ≡ None → Fine i w bad k
    many true p e = absurd (cc)
    many false p e = cells bad (leb-false most_rules i p) e

-- the first line then has an even number of cells
pub even_first : (w : ℕ) (feed : Bool) (bad : Option ℕ) (k : ℕ) → line_flaw 0 w feed bad k ≡ None → k % 2 ≡ 0
unfolding line_flaw
even_first w feed None k none = width_even k none
even_first w feed (Some bad) k none = absurd (cc)
