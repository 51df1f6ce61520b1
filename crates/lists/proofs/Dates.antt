-- Laws of which fields are dates (`specs/Rules.antt`, `flag_of`, `dates_in`, `is_date`).
--     flag_none, flag_by       a flag, as the code reads it
--     flag_unset, plain_range  where no flag is set
--     date_flag                of a list's d fields those are dates whose flag is set
--     dates_same               only the flags of the d fields are read
--     date_ends                the first number past a range of dates is its high
--     no_dates, ends_plain     a shape without flags has no dates, and its ranges end past their high
-- Assumes nothing.
use Prim.Native.Nat.{ℕ, ◌/◌, ◌%◌, ◌^◌, ◌≤◌, ◌<◌}
use mathlib.Core.Bool.{true, false}
use mathlib.Core.List.{List}
use mathlib.Core.Path.{◌≡◌, refl, sym, ap, ◌∙◌}
use native.Mathlib.Nat.{zero-div}
use borrow.Author.Tests.{lt-ltb, le-ltb}
use lib.Dec.{ltb, eqb}
use Rattle.ranges.specs.Numbers.{bit, tab}
use Rattle.ranges.specs.Sides.{end_of, closed_at, range_of}
use Rattle.ranges.proofs.Numbers.{and_fails, bit_test, tab_at, tab_same, tab-zero}
use Rattle.ranges.proofs.Sides.{past_date, past_other}
use Rattle.lists.specs.Limits.{most_fields}
use Rattle.lists.specs.Rules.{Rules, shape_of, flag_of, dates_in, listed, is_date, high_of, ends_at}
use Rattle.lists.specs.declared.shape.Shape.{Shape}

-- ---- a flag, as the code reads it
module _ (s : Shape) (f : ℕ) where
  pub flag_unset : s.dates ≡ 0 → false ≡ flag_of s f
  unfolding flag_of
  flag_unset none = sym (and_fails (ltb f most_fields) (eqb (s.dates / 2 ^ f % 2) 1) (rw (none, zero-div (2 ^ f))))

  pub plain_range : (low high : ℕ) → s.dates ≡ 0 → closed_at low high ≡ range_of (flag_of s f) low high
  plain_range low high none = rw (← flag_unset none, past_other high)

  pub flag_none : most_fields ≤ f → false ≡ flag_of s f
  unfolding flag_of
  flag_none past = rw (le-ltb f most_fields past)

  pub flag_by : f < most_fields → eqb (s.dates / 2 ^ f % 2) 1 ≡ flag_of s f
  unfolding flag_of
  flag_by lt = rw (lt-ltb f most_fields lt)

-- ---- the flags of the d fields
pub date_flag : (s : Shape) (l : List ℕ) (f : ℕ) → f < s.d → is_date (listed s l) f ≡ flag_of s f
unfolding is_date dates_in
date_flag s l f lt = ap (λ b. eqb b 1) (tab_at (λ g. bit (flag_of s g)) s.d f lt) ∙ bit_test (flag_of s f)

-- shapes of one d whose flags agree below d give a list the same meaning
pub dates_same : (s t : Shape) → s.d ≡ t.d → ((f : ℕ) → f < s.d → flag_of s f ≡ flag_of t f) → (l : List ℕ) → listed s l ≡ listed t l
unfolding dates_in
dates_same s t same agree l =
    let flags : tab s.d (λ f. bit (flag_of s f)) ≡ tab s.d (λ f. bit (flag_of t f)) = tab_same s.d (λ f lt. ap bit (agree f lt)) in
    rw (flags, same)

-- ---- where ranges end
pub date_ends : (R : Rules) (i f : ℕ) → is_date R f ≡ true → ends_at R i f ≡ high_of R i f
unfolding ends_at
date_ends R i f date = rw date (past_date (high_of R i f))

-- ---- no flags
flag_off : (d f : ℕ) → flag_of (shape_of d) f ≡ false
flag_off d f = sym (flag_unset (shape_of d) f refl)

pub no_dates : (d : ℕ) (l : List ℕ) (f : ℕ) → is_date (listed (shape_of d) l) f ≡ false
unfolding is_date dates_in
no_dates d l f = ap (λ b. eqb b 1) (tab-zero d f (λ g. ap bit (flag_off d g)))

pub ends_plain : (d : ℕ) (l : List ℕ) (i f : ℕ) → ends_at (listed (shape_of d) l) i f ≡ end_of (high_of (listed (shape_of d) l) i f)
unfolding ends_at
ends_plain d l i f = rw (no_dates d l f) (past_other (high_of (listed (shape_of d) l) i f))
