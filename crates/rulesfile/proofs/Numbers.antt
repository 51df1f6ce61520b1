-- The number of a flaw is 01's fault (`specs/Flaws.antt`, `specs/Faults.antt`): the flaw counts cells as the reader does, the
-- fault counts them truly, and no fault is told differently for a count past `counted_to`, which is not exact.
--     first_number                  the first of two flaws
--     count_few                     a count of at most 16 is exact
--     line_number                   a line after one of at most 16 cells
--     flaw_alike, first_narrow      the first line: no width was before it, and its own is at most 16
--     lines_number                  the lines of a file
--     reading_number                what is found while a file is read
-- Assumes nothing.
use Prim.Native.Nat.{ℕ, ◌+◌, ◌%◌, ◌≤◌, ◌<◌}
use mathlib.Core.Bool.{Bool, true, false}
use mathlib.Core.List.{List, [], ◌∷◌}
use mathlib.Core.Path.{◌≡◌, refl, sym, ap, ◌∙◌}
use native.Mathlib.Omega.{arith}
use borrow.Author.Tests.{eq-eqb, lt-ltb, eqb-true}
use lib.Dec.{ltb, leb, eqb}
use lib.ListN.{length}
use Rattle.std.specs.Prelude.{Option, None, Some, is_none}
use Rattle.ranges.specs.Numbers.{pick}
use Rattle.lists.specs.Limits.{most_rules}
use Rattle.text.specs.Rows.{all_numbers, exact_below, many_more, bad_in}
use Rattle.text.specs.Lines.{cells_of, feed_in}
use Rattle.text.proofs.Counted.{bad-none, many_either, many_same}
use Rattle.rulesfile.specs.Faults.{first_fault, most_cells, width_fault, cells_fault, line_fault, lines_fault, reading_fault}
use Rattle.rulesfile.specs.Flaws.{first_flaw, width_flaw, cells_flaw, line_flaw, count_in, flaw_on, lines_flaw, reading_flaw}
use Rattle.flaws.specs.Numbered.{number_of_flaw}
use Rattle.flaws.specs.declared.flaw.Flaw.{Flaw}
use Rattle.flaws.specs.declared.flaw.Flaw.TheVariants.{NoLine, NotNumber, LoneFeed, OtherWidth, OddWidth, TooWide, TooManyRules, LowAboveHigh}
use Rattle.rulesfile.proofs.Flaws.{number_none, fine_line}

-- ---- the first of two
pub first_number : (f g : Option Flaw) → number_of_flaw (first_flaw f g) ≡ first_fault (number_of_flaw f) (number_of_flaw g)
first_number None g = refl
first_number (Some NoLine) g = refl
first_number (Some (NotNumber line cell)) g = refl
first_number (Some LoneFeed) g = refl
first_number (Some (OtherWidth line cells width)) g = refl
first_number (Some (OddWidth cells)) g = refl
first_number (Some (TooWide cells)) g = refl
first_number (Some TooManyRules) g = refl
first_number (Some (LowAboveHigh rule field low high)) g = refl

-- ---- a line, of the counts as they are
width_number : (k : ℕ) → number_of_flaw (width_flaw k) ≡ width_fault k
unfolding width_flaw width_fault
width_number k = go (eqb (k % 2) 1) (ltb most_cells k)
  where
    go : (s t : Bool) → number_of_flaw (pick s (Some (OddWidth k)) (pick t (Some (TooWide k)) None)) ≡ pick s 8 (pick t 1 0)
    go true t = refl
    go false true = refl
    go false false = refl

cells_number : (i w : ℕ) (feed : Bool) (bad : Option ℕ) (k : ℕ) → number_of_flaw (cells_flaw i w feed bad k) ≡ cells_fault i w (is_none bad) k
unfolding cells_fault
cells_number i w feed None k = go (eqb i 0) (eqb k w)
  where
    go : (z s : Bool) → number_of_flaw (pick z (width_flaw k) (pick s None (Some (OtherWidth (i + 1) k w)))) ≡ pick z (width_fault k) (pick s 0 8)
    go true s = width_number k
    go false true = refl
    go false false = refl
cells_number i w true (Some bad) k = refl
cells_number i w false (Some bad) k = refl

counts_number : (i w : ℕ) (feed : Bool) (bad : Option ℕ) (k : ℕ)
    → number_of_flaw (line_flaw i w feed bad k) ≡ pick (leb most_rules i) 3 (cells_fault i w (is_none bad) k)
unfolding line_flaw
counts_number i w feed bad k = go (leb most_rules i)
  where
    go : (m : Bool) → number_of_flaw (pick m (Some TooManyRules) (cells_flaw i w feed bad k)) ≡ pick m 3 (cells_fault i w (is_none bad) k)
    go true = refl
    go false = cells_number i w feed bad k

-- ---- the count
-- past `counted_to` it is even or odd as it should be, and too large either way
width_count : (cs : List (List ℕ)) → width_fault (many_more 0 cs) ≡ width_fault (length cs)
unfolding width_fault
width_count cs =
    many_either cs (λ same. rw same)
    (λ large many parity.
    let wide : most_cells < many_more 0 cs = omega arith in
    let wide' : most_cells < length cs = omega arith in
    rw (parity, lt-ltb most_cells (many_more 0 cs) wide, lt-ltb most_cells (length cs) wide'))

fault-count : (i w : ℕ) (g : Bool) (cs : List (List ℕ)) → w ≤ most_cells → cells_fault i w g (many_more 0 cs) ≡ cells_fault i w g (length cs)
unfolding cells_fault
fault-count i w g cs le =
    let small : w < exact_below = omega arith in
    rw (width_count cs, many_same cs w small)

pub count_few : (l : List ℕ) → count_in l ≤ most_cells → count_in l ≡ length (cells_of l)
count_few l few =
    let small : count_in l < exact_below = omega arith in
    sym (eqb-true (length (cells_of l)) (count_in l) (sym (many_same (cells_of l) (count_in l) small) ∙ eq-eqb (count_in l) (count_in l) refl))

-- ---- a line
pub line_number : (i w : ℕ) (l : List ℕ) → w ≤ most_cells → number_of_flaw (flaw_on i w l) ≡ line_fault i w l
line_number i w l narrow =
    counts_number i w (feed_in l) (bad_in 0 (cells_of l)) (count_in l)
    ∙ ap (λ g. pick (leb most_rules i) 3 (cells_fault i w g (count_in l))) (bad-none 0 (cells_of l))
    ∙ ap (pick (leb most_rules i) 3) (fault-count i w (all_numbers (cells_of l)) (cells_of l) narrow)

-- on the first line the width does not matter
line_alike : (w v : ℕ) (feed : Bool) (bad : Option ℕ) (k : ℕ) → line_flaw 0 w feed bad k ≡ line_flaw 0 v feed bad k
unfolding line_flaw
line_alike w v feed bad k = refl

fault-alike : (w v : ℕ) (g : Bool) (k : ℕ) → cells_fault 0 w g k ≡ cells_fault 0 v g k
unfolding cells_fault
fault-alike w v g k = refl

pub flaw_alike : (w v : ℕ) (l : List ℕ) → flaw_on 0 w l ≡ flaw_on 0 v l
flaw_alike w v l = line_alike w v (feed_in l) (bad_in 0 (cells_of l)) (count_in l)

first_line : (w v : ℕ) (l : List ℕ) → number_of_flaw (flaw_on 0 w l) ≡ line_fault 0 v l
first_line w v l =
    ap number_of_flaw (flaw_alike w 0 l)
    ∙ line_number 0 0 l (omega arith)
    ∙ fault-alike 0 v (all_numbers (cells_of l)) (length (cells_of l))

-- ---- lines
later_number : (w : ℕ) → w ≤ most_cells → (ls : List (List ℕ)) (i : ℕ) → number_of_flaw (lines_flaw i w ls) ≡ lines_fault i w ls
later_number w narrow [] i = refl
later_number w narrow (l ∷ ls) i =
    first_number (flaw_on i w l) (lines_flaw (i + 1) w ls)
    ∙ ap (λ f. first_fault f (number_of_flaw (lines_flaw (i + 1) w ls))) (line_number i w l narrow)
    ∙ ap (first_fault (line_fault i w l)) (later_number w narrow ls (i + 1))

-- a first line without flaw has at most 16 cells
pub first_narrow : (w : ℕ) (l : List ℕ) → flaw_on 0 w l ≡ None → count_in l ≤ most_cells
first_narrow w l none = (fine_line 0 w (feed_in l) (bad_in 0 (cells_of l)) (count_in l) none).first refl

pub lines_number : (l : List ℕ) (ls : List (List ℕ)) → number_of_flaw (lines_flaw 0 (count_in l) (l ∷ ls)) ≡ lines_fault 0 (length (cells_of l)) (l ∷ ls)
lines_number l ls =
    first_number (flaw_on 0 (count_in l) l) (lines_flaw 1 (count_in l) ls)
    ∙ ap (λ f. first_fault f (number_of_flaw (lines_flaw 1 (count_in l) ls))) (first_line (count_in l) (length (cells_of l)) l)
    ∙ go (eqb (line_fault 0 (length (cells_of l)) l) 0) refl
  where
    go : (t : Bool) → eqb (line_fault 0 (length (cells_of l)) l) 0 ≡ t
        → first_fault (line_fault 0 (length (cells_of l)) l) (number_of_flaw (lines_flaw 1 (count_in l) ls))
        ≡ first_fault (line_fault 0 (length (cells_of l)) l) (lines_fault 1 (length (cells_of l)) ls)
    go true e =
        let none = eqb-true (line_fault 0 (length (cells_of l)) l) 0 e in
        let narrow = first_narrow (count_in l) l (number_none (flaw_on 0 (count_in l) l) (first_line (count_in l) (length (cells_of l)) l ∙ none)) in
        ap (first_fault (line_fault 0 (length (cells_of l)) l)) (later_number (count_in l) narrow ls 1 ∙ ap (λ w. lines_fault 1 w ls) (count_few l narrow))
    go false e = rw e

pub reading_number : (ls : List (List ℕ)) → number_of_flaw (reading_flaw ls) ≡ reading_fault ls
reading_number [] = refl
reading_number (l ∷ ls) = lines_number l ls
