-- Laws of the answer to a line (`specs/Answers.antt`), way by way.
--     unnamed                                   no blank has ended the name
--     ill_read, crowded, called                 a line whose name has ended
--     answer_long                               of which there are as many
--     call_over                                 more numbers than any call takes
-- Assumes nothing.
use Prim.Native.Nat.{ℕ, ◌≤◌, ◌<◌}
use mathlib.Core.Bool.{Bool, true, false}
use mathlib.Core.List.{List, ◌++◌}
use mathlib.Core.Path.{◌≡◌, refl, ◌∙◌}
use native.Mathlib.Omega.{arith}
use borrow.Author.Tests.{le-leb, lt-leb}
use lib.ListN.{length, take, drop, length-append, length-take, length-drop}
use Rattle.ranges.specs.Numbers.{pick}
use Rattle.text.specs.Rows.{good, row_next, kept_at}
use Rattle.text.specs.declared.row.Row.{Row}
use Rattle.text.proofs.Rows.{kept_long}
use Rattle.words.specs.Limits.{line_room}
use Rattle.words.specs.Words.{bad_said, following, side_said, p2r_said}
use Rattle.words.specs.declared.table_words.TableWord.{TableWord}
use Rattle.words.specs.declared.table_words.TableWord.TheVariants.{Build, Lookup, Audit, Report}
use Rattle.words.proofs.Parts.{list_over, tables_over}
use Rattle.words.proofs.Words.{choice_over, exact_bad, r2p_over, left_long}
use Rattle.hearing.specs.declared.line.Line.{Line}
use Rattle.calls.specs.declared.word.Word.{Word}
use Rattle.calls.specs.declared.word.Word.TheVariants.{Check, Scan, Independent, Choice, Table, Side, P2r, R2p, Unknown}
use Rattle.hearing.specs.declared.flags.Flags.{Flags}
use Rattle.hearing.specs.Flags.{dates_of, flags_ended}
use Rattle.hearing.specs.Lines.{Heard, heard}
use Rattle.calls.specs.Names.{word_of, flags_fit}
use Rattle.calls.specs.Answers.{word_said, word_left, flagged_said, flagged_left, is_call, named_left, answer_said, answer_left}

-- ---- a line that is no call, of which the answer is bad
pub unnamed : (line : Line) (name numbers : List ℕ) → line.named ≡ false → answer_said (heard line name numbers) ≡ bad_said
unfolding answer_said
unnamed line name numbers e = rw e

-- ---- a line whose name has ended
module _ (k : ℕ) (name : List ℕ) (row : Row) (run : List ℕ) where
  -- a word that is no number
  pub ill_read : good row ≡ false → is_call k name row run ≡ false
  unfolding is_call
  ill_read bad = rw bad

  -- more numbers than there are places
  pub crowded : good row ≡ true → length run < row.cells → is_call k name row run ≡ false
  unfolding is_call
  crowded stands lt = rw (stands, lt-leb row.cells (length run) lt)

  pub called : good row ≡ true → row.cells ≤ length run → k ≤ length name → is_call k name row run ≡ true
  unfolding is_call
  called stands few within = rw (stands, le-leb row.cells (length run) few, le-leb k (length name) within)

-- ---- the run of the numbers keeps its length
word_long : (word : Word) (ns : List ℕ) → length (word_left word ns) ≡ length ns
word_long Check ns = refl
word_long Scan ns = refl
word_long Independent ns = refl
word_long (Choice word) ns = refl
word_long (Table word) ns = refl
word_long Side ns = refl
word_long P2r ns = refl
word_long R2p ns = left_long ns
word_long Unknown ns = refl

flagged_long : (word : Word) (flags : Flags) (ns : List ℕ) → length (flagged_left word flags ns) ≡ length ns
unfolding flagged_left
flagged_long word flags ns = go (flags_fit word flags)
  where
    go : (t : Bool) → length (pick t (word_left word ns) ns) ≡ length ns
    go true = word_long word ns
    go false = refl

named_long : (k : ℕ) (name : List ℕ) (flags : Flags) (row : Row) (run : List ℕ) → length (named_left k name flags row run) ≡ length run
named_long k name flags row run = go (is_call k name row run)
  where
    front : List ℕ
    front = flagged_left (word_of (take k name)) flags (take row.cells run)

    go : (t : Bool) → length (pick t (front ++ drop row.cells run) run) ≡ length run
    go true =
        let same = flagged_long (word_of (take k name)) flags (take row.cells run) in
        omega (arith, length-append front (drop row.cells run), same, length-take row.cells run, length-drop row.cells run)
    go false = refl

pub answer_long : (s : Heard) → length (answer_left s) ≡ length s.numbers
unfolding answer_left
answer_long s = go s.line.named
  where
    run : List ℕ
    run = kept_at s.line.row 0 s.numbers

    go : (t : Bool) → length (pick t (named_left s.line.length s.name (flags_ended s.line.flags) (row_next s.line.row) run) s.numbers) ≡ length s.numbers
    go true = named_long s.line.length s.name (flags_ended s.line.flags) (row_next s.line.row) run ∙ kept_long s.line.row 0 s.numbers
    go false = refl

-- ---- more numbers than any call takes
following_few : (word : TableWord) → following word ≤ 8
following_few Build = omega arith
following_few Lookup = omega arith
following_few Audit = omega arith
following_few Report = omega arith

word_over : (word : Word) (dates : ℕ) (ns : List ℕ) → line_room < length ns → word_said word dates ns ≡ bad_said
unfolding side_said p2r_said
word_over Check dates ns over = rw (list_over ns 0 (omega arith))
word_over Scan dates ns over = rw (list_over ns 8 (omega arith))
word_over Independent dates ns over = rw (list_over ns 0 (omega arith))
word_over (Choice word) dates ns over = choice_over ns over word dates
word_over (Table word) dates ns over = let few = following_few word in rw (tables_over ns (following word) (omega arith))
word_over Side dates ns over = exact_bad 5 ns _ (λ e. omega arith)
word_over P2r dates ns over = exact_bad 3 ns _ (λ e. omega arith)
word_over R2p dates ns over = rw (r2p_over ns (omega arith))
word_over Unknown dates ns over = refl

pub call_over : (word : Word) (flags : Flags) (ns : List ℕ) → line_room < length ns → flagged_said word flags ns ≡ bad_said
unfolding flagged_said
call_over word flags ns over = go (flags_fit word flags)
  where
    go : (t : Bool) → pick t (word_said word (dates_of flags) ns) bad_said ≡ bad_said
    go true = word_over word (dates_of flags) ns over
    go false = refl
