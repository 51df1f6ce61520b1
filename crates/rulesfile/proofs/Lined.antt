-- One line of a rules file, judged at its end (`specs/Bytes.antt`): its cells come to its flaw, and after a flaw nothing changes
-- any more but the run.
--     lines_stay                      after a flaw
--     lines_long                      the run keeps its length
--     line_flawed                     a line with a flaw
--     LineStands, line_stands         one without
--     cells_some, line_even           how many cells a line has
-- Assumes nothing.
use Prim.Native.Nat.{ℕ, ◌+◌, ◌*◌, ◌%◌, ◌≤◌, ◌<◌}
use mathlib.Core.Bool.{Bool, true, false}
use mathlib.Core.List.{List, [], ◌∷◌}
use mathlib.Core.Path.{◌≡◌, refl, sym, ap, ◌∙◌}
use native.Mathlib.Omega.{arith}
use borrow.Author.Tests.{eqb-true, eqb-false}
use lib.Dec.{eqb}
use lib.ListN.{length}
use lib.Seq.{sets}
use Rattle.std.specs.Prelude.{None, Some, is_none}
use Rattle.ranges.specs.Numbers.{pick}
use Rattle.lists.specs.Limits.{most_rules}
use Rattle.text.specs.Rows.{in_front, all_numbers, values_of, bad_in, Reading, begin, read_cells}
use Rattle.text.specs.Lines.{cells_of, feed_in, whole_line}
use Rattle.text.specs.Judging.{judged_lines}
use Rattle.text.proofs.Counted.{line_bad, bad-none, cells_count, cells_run, cells_long}
use Rattle.rulesfile.specs.Faults.{most_cells}
use Rattle.rulesfile.specs.Flaws.{line_flaw, count_in, flaw_on}
use Rattle.rulesfile.specs.Bytes.{rules_so_far, line_at, flaw_here, judged_by, judge_rules}
use Rattle.flaws.specs.declared.flaw.Flaw.{Flaw}
use Rattle.rulesfile.specs.declared.file.RulesSoFar.{RulesSoFar}
use Rattle.rulesfile.proofs.Flaws.{Fine, fine_line, even_first}
use Rattle.rulesfile.proofs.Steps.{judged_kept, judged_flawed, judged-fine}
use Rattle.rulesfile.proofs.Numbers.{count_few}

-- ---- after a flaw
pub lines_stay : (ls : List (List ℕ)) (r : RulesSoFar) (run : List ℕ) {f : Flaw} → r.flaw ≡ Some f → (judged_lines line_at judge_rules r run ls).own ≡ r
lines_stay [] r run some = refl
lines_stay (l ∷ ls) r run some =
    let line = whole_line (line_at r) run l in
    ap (λ q. (judged_lines line_at judge_rules q line.run ls).own) (judged_kept r line.line some) ∙ lines_stay ls r line.run some

-- ---- the run
pub lines_long : (ls : List (List ℕ)) (r : RulesSoFar) (run : List ℕ) → length (judged_lines line_at judge_rules r run ls).run ≡ length run
lines_long [] r run = refl
lines_long (l ∷ ls) r run =
    let line = whole_line (line_at r) run l in
    lines_long ls (judged_by r line.line) line.run ∙ cells_long (cells_of l) (line_at r) (begin run)

-- ---- how many cells a line has
-- one at least
front_some : (b : ℕ) (cs : List (List ℕ)) → 1 ≤ length (in_front b cs)
front_some b [] = omega arith
front_some b (c ∷ cs) = omega arith

pub cells_some : (l : List ℕ) → 1 ≤ length (cells_of l)
cells_some [] = omega arith
cells_some (b ∷ bs) = go (eqb b 44)
  where
    go : (t : Bool) → 1 ≤ length (pick t ([] ∷ cells_of bs) (in_front b (cells_of bs)))
    go true = omega arith
    go false = front_some b (cells_of bs)

-- ---- a line after i lines of w cells
-- without flaw: one of the first 1,024, of as many cells as the first, at most 16, and its numbers stand after those of the lines before it
pub record LineStands (i w : ℕ) (l run : List ℕ) : Type 0 where
  pub few : i < most_rules
  pub count : count_in l ≡ length (cells_of l)
  pub short : length (cells_of l) ≤ most_cells
  pub same : (i ≡ 0 → ⊥) → length (cells_of l) ≡ w
  pub own : judged_by (rules_so_far i w None) (whole_line (i * w) run l).line ≡ rules_so_far (i + 1) (length (cells_of l)) None
  pub after : (whole_line (i * w) run l).run ≡ sets run (i * w) (values_of (cells_of l))

module _ (i w : ℕ) (l run : List ℕ) where
  abbrev read_to : Reading
  read_to = read_cells (i * w) (begin run) (cells_of l)

  -- the line's flaw as the code has it
  flaw_is : flaw_here (rules_so_far i w None) (whole_line (i * w) run l).line ≡ flaw_on i w l
  flaw_is =
      ap (λ b. line_flaw i w (feed_in l) b read_to.row.cells) (line_bad (i * w) run (cells_of l))
      ∙ ap (line_flaw i w (feed_in l) (bad_in 0 (cells_of l))) (cells_count (i * w) (begin run) (cells_of l))

  pub line_flawed : {f : Flaw} → flaw_on i w l ≡ Some f → judged_by (rules_so_far i w None) (whole_line (i * w) run l).line ≡ rules_so_far i w (Some f)
  line_flawed flawed = judged_flawed (rules_so_far i w None) (whole_line (i * w) run l).line refl (flaw_is ∙ flawed)

  module _ (narrow : w ≤ most_cells) (none : flaw_on i w l ≡ None) where
    fine : Fine i w (bad_in 0 (cells_of l)) (count_in l)
    fine = fine_line i w (feed_in l) (bad_in 0 (cells_of l)) (count_in l) none

    count_short : count_in l ≤ most_cells
    count_short = go (eqb i 0) refl
      where
        go : (t : Bool) → eqb i 0 ≡ t → count_in l ≤ most_cells
        go true e = fine.first (eqb-true i 0 e)
        go false e = let same = fine.later (eqb-false i 0 e) in omega arith

    numbers : all_numbers (cells_of l) ≡ true
    numbers = sym (bad-none 0 (cells_of l)) ∙ ap is_none fine.numbers

    pub line_stands : LineStands i w l run
    line_stands =
        let count = count_few l count_short in
        let short : length (cells_of l) ≤ most_cells = omega (arith, count_short) in
        let place : i * w + 0 ≡ i * w = omega arith in
        record {
          few = fine.few;
          count = count;
          short = short;
          same = λ later. sym count ∙ fine.later later;
          own =
              judged-fine (rules_so_far i w None) (whole_line (i * w) run l).line refl (flaw_is ∙ none)
              ∙ ap (λ k. rules_so_far (i + 1) k None) (cells_count (i * w) (begin run) (cells_of l) ∙ count);
          after = cells_run (cells_of l) (i * w) (begin run) numbers (omega arith) ∙ ap (λ k. sets run k (values_of (cells_of l))) place;
        }

-- a first line without flaw has an even number of cells
pub line_even : (w : ℕ) (l : List ℕ) → flaw_on 0 w l ≡ None → count_in l % 2 ≡ 0
line_even w l none = even_first w (feed_in l) (bad_in 0 (cells_of l)) (count_in l) none
