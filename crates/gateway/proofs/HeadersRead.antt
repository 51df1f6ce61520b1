-- The headers file read byte by byte prints what `HeaderLines.antt` of the crate answers says of its lines, and counts which of them are refused. A line is
-- read from nothing into a header of zeros (`whole_line` of the crate text), and its end leaves zeros again.
--     line_answered      one line
--     headers_read       what the whole file prints, and what its lines come to
-- Assumes nothing.
use Prim.Native.Nat.{ℕ, zero, suc, ◌+◌, ◌-◌, ◌≤◌, ◌<◌}
use mathlib.Core.Bool.{Bool, true, false}
use mathlib.Core.List.{List, [], ◌∷◌, ◌++◌, append_assoc, append-nil}
use mathlib.Core.Path.{◌≡◌, refl, sym, ap, ◌∙◌}
use native.Mathlib.Omega.{arith}
use borrow.Author.Tests.{eqb-true}
use lib.Dec.{eqb}
use lib.ListN.{length, take, drop, replicate}
use lib.Seq.{sets, sets-eq, take-append-add}
use Rattle.std.specs.Prelude.{Option, None, Some, is_none}
use Rattle.ranges.specs.Refusals.{number_of}
use Rattle.ranges.specs.declared.refusal.Cause.TheVariants.{BadLine}
use Rattle.ranges.specs.Numbers.{pick, ◌and◌}
use Rattle.lists.specs.Rules.{Rules, fields_of}
use Rattle.lists.specs.Headers.{header_length, zeros}
use Rattle.lookup.specs.Lookup.{lookup_of}
use Rattle.text.specs.Cells.{fed}
use Rattle.text.specs.Files.{lines_of}
use Rattle.text.specs.Rows.{all_numbers, values_of, exact_below, many_more, bad_in, begin, read_cells}
use Rattle.text.specs.Lines.{cells_of, feed_in, whole_line}
use Rattle.text.specs.Judging.{judged, judged_lines}
use Rattle.text.proofs.Counted.{line_bad, bad-none, cells_count, cells_run, values_length, many_same}
use Rattle.text.proofs.Judging.{judged_is}
use Rattle.answers.specs.Said.{refused_said, looked_said}
use Rattle.answers.specs.Counts.{no_lines, counted_by}
use Rattle.answers.specs.HeaderLines.{header_flaw, answer_said, header_of, line_said, lines_said, flaw_on}
use Rattle.gateway.specs.HeaderBytes.{no_headers, Answered, answered, header_at, judge_header, headers_in_file, headers_step, headers_end}
use Rattle.answers.proofs.Counting.{counts}

-- ---- a line's cells, read into zeros
-- a run of zeros, cut
zeros-drop : (k n : ℕ) → k ≤ n → drop k (replicate {A = ℕ} n 0) ≡ replicate (n - k) 0
zeros-drop zero n le = let same : n - 0 ≡ n = omega arith in rw same
zeros-drop (suc k) zero le = absurd (omega arith)
zeros-drop (suc k) (suc n) le = let same : suc n - suc k ≡ n - k = omega arith in rw same (zeros-drop k n (omega arith))

zeros-take : (k n : ℕ) → k ≤ n → take k (replicate {A = ℕ} n 0) ≡ replicate k 0
zeros-take zero n le = refl
zeros-take (suc k) zero le = absurd (omega arith)
zeros-take (suc k) (suc n) le = ap (λ l. 0 ∷ l) (zeros-take k n (omega arith))

-- at most eight numbers and zeros past them, put into zeros or taken from the front of both
front : (ns : List ℕ) → length ns ≤ header_length → sets zeros 0 ns ≡ take header_length (ns ++ zeros)
front ns few =
    let fits : 0 + length ns ≤ length zeros = omega arith in
    let eight : length ns + (header_length - length ns) ≡ header_length = omega arith in
    let rest : take (header_length - length ns) zeros ≡ replicate (header_length - length ns) 0 = zeros-take (header_length - length ns) header_length (omega arith) in
    let same : 0 + length ns ≡ length ns = omega arith in
    sets-eq ns zeros 0 fits
    ∙ ap (λ j. ns ++ drop j zeros) same
    ∙ ap (λ l. ns ++ l) (zeros-drop (length ns) header_length few ∙ sym rest)
    ∙ sym (take-append-add ns zeros (header_length - length ns))
    ∙ ap (λ j. take j (ns ++ zeros)) eight

-- the header of as many numbers as there are fields
run_is : (cs : List (List ℕ)) → all_numbers cs ≡ true → length cs ≤ header_length → (read_cells 0 (begin zeros) cs).run ≡ header_of cs
run_is cs all few =
    let short : length (values_of cs) ≤ header_length = omega (arith, values_length cs) in
    cells_run cs 0 (begin zeros) all (omega arith) ∙ front (values_of cs) short

-- ---- a line
module _ (R : Rules) (T : List ℕ) (narrow : fields_of R ≤ header_length) where
  abbrev d : ℕ
  d = fields_of R

  -- the flaw of a line as it is read
  flaw_here_lem : (l : List ℕ) → let w = (whole_line 0 zeros l).line in header_flaw d w.feed w.row.bad w.row.cells ≡ flaw_on d l
  flaw_here_lem l =
      ap (λ k. header_flaw d (feed_in l) k (read_cells 0 (begin zeros) (cells_of l)).row.cells) (line_bad 0 zeros (cells_of l))
      ∙ ap (header_flaw d (feed_in l) (bad_in 0 (cells_of l))) (cells_count 0 (begin zeros) (cells_of l))

  small : d < exact_below
  small = omega arith

  -- what is printed for it: it is refused exactly where it is bad or hasn't d cells
  said_is : (l : List ℕ) → answer_said R T (flaw_on d l) (whole_line 0 zeros l).run ≡ line_said R T l
  said_is l = rw (← bad-none 0 (cells_of l), ← many_same (cells_of l) d small) (go (bad_in 0 (cells_of l)) refl (eqb (many_more 0 (cells_of l)) d) refl)
    where
      go : (b : Option ℕ) → bad_in 0 (cells_of l) ≡ b → (t : Bool) → eqb (many_more 0 (cells_of l)) d ≡ t
          → answer_said R T (header_flaw d (feed_in l) b (many_more 0 (cells_of l))) (whole_line 0 zeros l).run
          ≡ pick (is_none b and t) (looked_said number_of (lookup_of R T (header_of (cells_of l)))) (refused_said (number_of BadLine))
      go None p true q =
          let count = eqb-true (length (cells_of l)) d (sym (many_same (cells_of l) d small) ∙ q) in
          rw q (ap (λ h. looked_said number_of (lookup_of R T h)) (run_is (cells_of l) (sym (bad-none 0 (cells_of l)) ∙ ap is_none p) (omega arith)))
      go None p false q = rw q
      go (Some bad) p t q = refl

  -- what a line leaves
  line_answered : (y : Answered) (l : List ℕ)
      → judge_header R T y (whole_line 0 zeros l) ≡ judged (answered (counted_by y.headers (flaw_on d l)) (y.said ++ line_said R T l)) zeros
  line_answered y l =
      ap (λ g. judged (answered (counted_by y.headers g) (y.said ++ answer_said R T g (whole_line 0 zeros l).run)) zeros) (flaw_here_lem l)
      ∙ ap (λ w. judged (answered (counted_by y.headers (flaw_on d l)) (y.said ++ w)) zeros) (said_is l)

  -- ---- lines one after the other
  lines_answered : (ls : List (List ℕ)) (y : Answered)
      → judged_lines header_at (judge_header R T) y zeros ls ≡ judged (answered (counts d y.headers ls) (y.said ++ lines_said R T ls)) zeros
  lines_answered [] y = ap (λ w. judged (answered y.headers w) zeros) (sym (append-nil y.said))
  lines_answered (l ∷ ls) y =
      ap (λ j. judged_lines header_at (judge_header R T) j.own j.run ls) (line_answered y l)
      ∙ lines_answered ls (answered (counted_by y.headers (flaw_on d l)) (y.said ++ line_said R T l))
      ∙ ap (λ w. judged (answered (counts d (counted_by y.headers (flaw_on d l)) ls) w) zeros) (append_assoc y.said (line_said R T l) (lines_said R T ls))

  -- ---- the whole file
  pub headers_read : (bs : List ℕ)
      → headers_end R T (fed (headers_step R T) (headers_in_file no_headers zeros []) bs) ≡ answered (counts d no_lines (lines_of bs)) (lines_said R T (lines_of bs))
  headers_read bs =
      ap (λ x. x.own) (judged_is header_at (judge_header R T) bs zeros (answered no_lines []))
      ∙ ap (λ j. j.own) (lines_answered (lines_of bs) (answered no_lines []))
