-- Lines of a rules file, judged one after the other (`specs/Bytes.antt`). Each adds its numbers to the list after those of the
-- lines before it, until the first that has a flaw; the first line sets the number of cells of the others.
--     Come, Stood, own_fine        what all lines of a file come to: the first flaw, and where there is none the list
--     come                         the lines of a file
--     rules-read                   the bytes of a file
-- Assumes nothing.
use Prim.Native.Nat.{ℕ, suc, ◌+◌, ◌*◌, ◌%◌, ◌≤◌, ◌<◌}
use mathlib.Core.List.{List, [], ◌∷◌, ◌++◌, append_assoc, append-nil}
use mathlib.Core.Path.{◌≡◌, refl, sym, ap, ◌∙◌, subst}
use native.Mathlib.Omega.{arith}
use native.Mathlib.Nat.{mul-le-mul}
use borrow.Author.Tests.{ne_eqb}
use lib.Dec.{eqb}
use lib.ListN.{length, take, drop, length-append}
use lib.Seq.{sets, sets-eq, length-sets, take_at, length-take-le}
use Rattle.std.specs.Prelude.{Option, None, Some}
use Rattle.ranges.specs.Numbers.{pick}
use Rattle.lists.specs.Limits.{most_numbers, most_rules}
use Rattle.text.specs.Cells.{fed}
use Rattle.text.specs.Rows.{values_of}
use Rattle.text.specs.Files.{lines_of}
use Rattle.text.specs.Lines.{cells_of, whole_line}
use Rattle.text.specs.Judging.{Judged, judged, judged_lines}
use Rattle.text.proofs.Counted.{values_length}
use Rattle.text.proofs.Judging.{judged_is}
use Rattle.rulesfile.specs.Faults.{most_cells, width_of, list_of}
use Rattle.rulesfile.specs.Flaws.{first_flaw, count_in, flaw_on, lines_flaw, reading_flaw}
use Rattle.rulesfile.specs.Bytes.{rules_so_far, no_rules, line_at, judge_rules, rules_in_file, rules_step, rules_end}
use Rattle.flaws.specs.declared.flaw.Flaw.{Flaw}
use Rattle.flaws.specs.declared.flaw.Flaw.TheVariants.{NoLine}
use Rattle.rulesfile.specs.declared.file.RulesSoFar.{RulesSoFar}
use Rattle.rulesfile.proofs.Flaws.{first_fine}
use Rattle.rulesfile.proofs.Numbers.{count_few, flaw_alike, first_narrow}
use Rattle.rulesfile.proofs.Lined.{lines_stay, lines_long, cells_some, line_flawed, line_stands, line_even}

-- ---- what all lines of a file come to
-- lines without flaw: how many they are, how many cells each has, and the numbers of all
pub record Stood (ls : List (List ℕ)) (y : Judged RulesSoFar) : Type 0 where
  pub lines : y.own.lines ≡ length ls
  pub width : y.own.width ≡ width_of ls
  pub numbers : take (y.own.lines * y.own.width) y.run ≡ list_of ls
  pub within : y.own.lines * y.own.width ≤ length y.run
  pub few : y.own.lines ≤ most_rules
  pub narrow : y.own.width ≤ most_cells
  pub some : 1 ≤ y.own.lines
  pub even : width_of ls % 2 ≡ 0
  pub wide : 2 ≤ width_of ls

-- what the file's end finds: that there is no line, where there is none
abbrev pub end_flaw : RulesSoFar → Option Flaw
end_flaw r = pick (eqb r.lines 0) (Some NoLine) None

-- the first flaw, that of the file's end the last of them, and where there is none all numbers; the run keeps its length
pub record Come (ls : List (List ℕ)) (y : Judged RulesSoFar) : Type 0 where
  pub flaw : first_flaw y.own.flaw (end_flaw y.own) ≡ reading_flaw ls
  pub stood : reading_flaw ls ≡ None → Stood ls y
  pub long : length y.run ≡ most_numbers

-- lines without flaw leave none
pub own_fine : {ls : List (List ℕ)} {y : Judged RulesSoFar} → Come ls y → reading_flaw ls ≡ None → y.own.flaw ≡ None
own_fine {ls} {y} at none = first_fine y.own.flaw (end_flaw y.own) (at.flaw ∙ none)

-- ---- the same of lines after i lines of w cells each, whose numbers are acc
record StoodOn (w i : ℕ) (acc : List ℕ) (ls : List (List ℕ)) (y : Judged RulesSoFar) : Type 0 where
  pub lines : y.own.lines ≡ i + length ls
  pub width : y.own.width ≡ w
  pub numbers : take ((i + length ls) * w) y.run ≡ acc ++ list_of ls
  pub few : i + length ls ≤ most_rules

record ComeOn (w i : ℕ) (acc : List ℕ) (ls : List (List ℕ)) (y : Judged RulesSoFar) : Type 0 where
  pub flaw : y.own.flaw ≡ lines_flaw i w ls
  pub stood : lines_flaw i w ls ≡ None → StoodOn w i acc ls y

abbrev read_on : RulesSoFar → List ℕ → List (List ℕ) → Judged RulesSoFar
read_on r run ls = judged_lines line_at judge_rules r run ls

-- rules with a flaw
come_flawed : (w i : ℕ) (acc l : List ℕ) (ls : List (List ℕ)) (y : Judged RulesSoFar) {f : Flaw} → y.own.flaw ≡ Some f → lines_flaw i w (l ∷ ls) ≡ Some f
    → ComeOn w i acc (l ∷ ls) y
come_flawed w i acc l ls y some is = record { flaw = some ∙ sym is; stood = λ e. absurd (cc) }

-- a line that stands, before lines that come to something
come-fine : (w i : ℕ) (acc l : List ℕ) (ls : List (List ℕ)) (y : Judged RulesSoFar) → flaw_on i w l ≡ None
    → ComeOn w (i + 1) (acc ++ values_of (cells_of l)) ls y → ComeOn w i acc (l ∷ ls) y
come-fine w i acc l ls y none rest = record { flaw = rest.flaw ∙ sym is; stood = λ e. stood (rest.stood (sym is ∙ e)) }
  where
    is : lines_flaw i w (l ∷ ls) ≡ lines_flaw (i + 1) w ls
    is = rw none

    count : i + 1 + length ls ≡ i + suc (length ls)
    count = omega arith

    stood : StoodOn w (i + 1) (acc ++ values_of (cells_of l)) ls y → StoodOn w i acc (l ∷ ls) y
    stood s =
        record {
          lines = s.lines ∙ count;
          width = s.width;
          numbers = ap (λ k. take (k * w) y.run) (sym count) ∙ s.numbers ∙ append_assoc acc (values_of (cells_of l)) (list_of ls);
          few = omega (arith, s.few);
        }

-- ---- one line and those after it
-- a line after i lines, of which the state knows the width v; w is the first line's width
module _ (w i v : ℕ) (acc l : List ℕ) (ls : List (List ℕ)) (list : List ℕ) (narrow : v ≤ most_cells) (same : flaw_on i w l ≡ flaw_on i v l) where
  abbrev line_on : Judged RulesSoFar
  line_on = read_on (rules_so_far i v None) list (l ∷ ls)

  -- with a flaw
  come-bad : {f : Flaw} → flaw_on i v l ≡ Some f → ComeOn w i acc (l ∷ ls) line_on
  come-bad {f} some =
      let left = (whole_line (i * v) list l).run in
      let stays : line_on.own ≡ rules_so_far i v (Some f)
      = ap (λ r. (read_on r left ls).own) (line_flawed i v l list some) ∙ lines_stay ls (rules_so_far i v (Some f)) left refl in
      let first : lines_flaw i w (l ∷ ls) ≡ Some f = ap (λ g. first_flaw g (lines_flaw (i + 1) w ls)) (same ∙ some) in
      come_flawed w i acc l ls line_on (ap (λ r. r.flaw) stays) first

  -- without
  come-good : flaw_on i v l ≡ None
      → ComeOn w (i + 1) (acc ++ values_of (cells_of l)) ls (read_on (rules_so_far (i + 1) (length (cells_of l)) None) (sets list (i * v) (values_of (cells_of l))) ls)
      → ComeOn w i acc (l ∷ ls) line_on
  come-good none rest =
      let stands = line_stands i v l list narrow none in
      let goes : line_on ≡ read_on (rules_so_far (i + 1) (length (cells_of l)) None) (sets list (i * v) (values_of (cells_of l))) ls
      = ap (λ r. read_on r (whole_line (i * v) list l).run ls) stands.own
      ∙ ap (λ run. read_on (rules_so_far (i + 1) (length (cells_of l)) None) run ls) stands.after in
      subst (ComeOn w i acc (l ∷ ls)) (sym goes) (come-fine w i acc l ls _ (same ∙ none) rest)

-- a line's numbers stand after those of the i lines before it
taken_line : (i w : ℕ) (list ns : List ℕ) → i < most_rules → w ≤ most_cells → length list ≡ most_numbers → length ns ≡ w
    → take ((i + 1) * w) (sets list (i * w) ns) ≡ take (i * w) list ++ ns
taken_line i w list ns few narrow long size =
    let next : i + 1 ≤ most_rules = omega arith in
    let product : (i + 1) * w ≤ most_rules * most_cells = mul-le-mul next narrow in
    let more : (i + 1) * w ≡ i * w + w = omega arith in
    let fits : i * w + length ns ≤ length list = omega arith in
    let before : i * w ≤ length list = omega arith in
    let front : length (take (i * w) list ++ ns) ≡ (i + 1) * w = rw (length-append, length-take-le (i * w) list before, size) (sym more) in
    ap (take ((i + 1) * w)) (sets-eq ns list (i * w) fits) ∙ take_at (take (i * w) list ++ ns) (drop (i * w + length ns) list) ((i + 1) * w) front

-- ---- lines after the first
module _ (w : ℕ) (narrow : w ≤ most_cells) where
  -- what is to be shown of lines
  abbrev Claim : List (List ℕ) → Type 0
  Claim ls =
      (i : ℕ) (list : List ℕ) → 1 ≤ i → i ≤ most_rules → length list ≡ most_numbers → ComeOn w i (take (i * w) list) ls (read_on (rules_so_far i w None) list ls)

  no_lines_lem : Claim []
  no_lines_lem i list some le size =
      let same : i + 0 ≡ i = omega arith in
      record {
        flaw = refl;
        stood = λ e.
            record {
              lines = sym same;
              width = refl;
              numbers = ap (λ k. take (k * w) list) same ∙ sym (append-nil (take (i * w) list));
              few = omega arith;
            };
      }

  one_line : (l : List ℕ) (ls : List (List ℕ)) → Claim ls → Claim (l ∷ ls)
  one_line l ls follow i list some le size = go (flaw_on i w l) refl
    where
      go : (f : Option Flaw) → flaw_on i w l ≡ f → ComeOn w i (take (i * w) list) (l ∷ ls) (read_on (rules_so_far i w None) list (l ∷ ls))
      go (Some f) e = come-bad w i w (take (i * w) list) l ls list narrow refl e
      go None none =
          let stands = line_stands i w l list narrow none in
          let few = stands.few in
          let same : length (cells_of l) ≡ w = stands.same (λ z. omega arith) in
          let ns = values_of (cells_of l) in
          let left = sets list (i * w) ns in
          let kept : length left ≡ most_numbers = length-sets list (i * w) ns ∙ size in
          let taken = taken_line i w list ns few narrow size (values_length (cells_of l) ∙ same) in
          let rest = follow (i + 1) left (omega arith) (omega arith) kept in
          come-good w i w (take (i * w) list) l ls list narrow refl none
          (subst (λ k. ComeOn w (i + 1) (take (i * w) list ++ ns) ls (read_on (rules_so_far (i + 1) k None) left ls)) (sym same)
          (subst (λ a. ComeOn w (i + 1) a ls (read_on (rules_so_far (i + 1) w None) left ls)) taken rest))

  later_lines : (ls : List (List ℕ)) → Claim ls
  later_lines [] = no_lines_lem
  later_lines (l ∷ ls) = one_line l ls (later_lines ls)

-- ---- all lines
-- the first line knows no width yet, and its own is the one of the others
all_lines : (l : List ℕ) (ls : List (List ℕ)) (list : List ℕ) → length list ≡ most_numbers
    → ComeOn (count_in l) 0 [] (l ∷ ls) (read_on (rules_so_far 0 0 None) list (l ∷ ls))
all_lines l ls list size = go (flaw_on 0 0 l) refl
  where
    same : flaw_on 0 (count_in l) l ≡ flaw_on 0 0 l
    same = flaw_alike (count_in l) 0 l

    go : (f : Option Flaw) → flaw_on 0 0 l ≡ f → ComeOn (count_in l) 0 [] (l ∷ ls) (read_on (rules_so_far 0 0 None) list (l ∷ ls))
    go (Some f) e = come-bad (count_in l) 0 0 [] l ls list (omega arith) same e
    go None none =
        let stands = line_stands 0 0 l list (omega arith) none in
        let w = length (cells_of l) in
        let ns = values_of (cells_of l) in
        let left = sets list (0 * 0) ns in
        let kept : length left ≡ most_numbers = length-sets list (0 * 0) ns ∙ size in
        let none_yet : 0 * w ≡ 0 = omega arith in
        let taken : take (1 * w) left ≡ ns = rw none_yet at (taken_line 0 w list ns stands.few stands.short size (values_length (cells_of l))) in
        let rest = later_lines w stands.short ls 1 left (omega arith) (omega arith) kept in
        come-good (count_in l) 0 0 [] l ls list (omega arith) same none
        (subst (λ k. ComeOn k 1 ns ls (read_on (rules_so_far 1 w None) left ls)) (sym stands.count)
        (subst (λ a. ComeOn w 1 a ls (read_on (rules_so_far 1 w None) left ls)) taken rest))

-- a file that has a line
come_lines : (l : List ℕ) (ls : List (List ℕ)) (y : Judged RulesSoFar) → ComeOn (count_in l) 0 [] (l ∷ ls) y → length y.run ≡ most_numbers → Come (l ∷ ls) y
come_lines l ls y on long = record { flaw = go found refl; stood = stood; long = long }
  where
    found : Option Flaw
    found = lines_flaw 0 (count_in l) (l ∷ ls)

    go : (f : Option Flaw) → found ≡ f → first_flaw y.own.flaw (end_flaw y.own) ≡ found
    go None none =
        let lines = (on.stood none).lines in
        let some : y.own.lines ≡ 0 → ⊥ = λ z. omega arith in
        rw (on.flaw, none, ne_eqb y.own.lines 0 some)
    go (Some f) some = rw (on.flaw, some)

    stood : found ≡ None → Stood (l ∷ ls) y
    stood none =
        let s = on.stood none in
        let fine = first_fine (flaw_on 0 (count_in l) l) (lines_flaw 1 (count_in l) ls) none in
        let narrow = first_narrow (count_in l) l fine in
        let count = count_few l narrow in
        let parity = line_even (count_in l) l fine in
        let cells = cells_some l in
        let lines : y.own.lines ≡ suc (length ls) = omega (arith, s.lines) in
        let width : y.own.width ≡ length (cells_of l) = s.width ∙ count in
        let few : y.own.lines ≤ most_rules = omega (arith, s.few) in
        let short : y.own.width ≤ most_cells = omega (arith, s.width) in
        let product : y.own.lines * y.own.width ≤ most_rules * most_cells = mul-le-mul few short in
        let even : length (cells_of l) % 2 ≡ 0 = ap (λ k. k % 2) (sym count) ∙ parity in
        let places : y.own.lines * y.own.width ≡ (0 + suc (length ls)) * count_in l = rw (s.lines, s.width) in
        record {
          lines = lines;
          width = width;
          numbers = ap (λ k. take k y.run) places ∙ s.numbers;
          within = omega arith;
          few = few;
          narrow = short;
          some = omega arith;
          even = even;
          wide = omega arith;
        }

pub come : (ls : List (List ℕ)) (list : List ℕ) → length list ≡ most_numbers → Come ls (judged_lines line_at judge_rules (rules_so_far 0 0 None) list ls)
come [] list size = record { flaw = refl; stood = λ e. absurd (cc); long = size }
come (l ∷ ls) list size =
    come_lines l ls (read_on (rules_so_far 0 0 None) list (l ∷ ls)) (all_lines l ls list size) (lines_long (l ∷ ls) (rules_so_far 0 0 None) list ∙ size)

-- ---- the bytes of a file
pub rules-read : (bytes list : List ℕ) → length list ≡ most_numbers → Come (lines_of bytes) (rules_end (fed rules_step (rules_in_file no_rules list) bytes))
rules-read bytes list size =
    subst (λ x. Come (lines_of bytes) (judged x.own x.now.run))
    (sym (judged_is line_at judge_rules bytes list (rules_so_far 0 0 None)))
    (come (lines_of bytes) list size)
