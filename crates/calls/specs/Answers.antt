-- The answer to a line: what its call answers, or bad where the line is no call.
-- `answer_to` says it of the line's bytes. `answer_said` says it of a line as it has been heard, as the code goes, and `answer_left` what
-- the run of the line's numbers then holds; contracts cite these. That the two answers agree is `line_is` of `proofs/Theorems.antt`.
-- Assumes nothing: these are definitions.
use Rattle.std.specs.Prelude.{ℕ, Bool, List, [], ◌∷◌, ◌++◌, length, take, drop, leb}
use Rattle.ranges.specs.Numbers.{pick, ◌and◌}
use Rattle.text.specs.Rows.{cells_in, all_numbers, values_of, good, row_next, kept_at}
use Rattle.text.specs.declared.row.Row.{Row}
use Rattle.words.specs.Words.{bad_said, check_said, scan_said, independent_said, choice_said, tabled_said, side_said, p2r_said, r2p_said, r2p_left}
use Rattle.calls.specs.declared.word.Word.{Word}
use Rattle.calls.specs.declared.word.Word.TheVariants.{Check, Scan, Independent, Choice, Table, Side, P2r, R2p, Unknown}
use Rattle.hearing.specs.declared.flags.Flags.{Flags}
use Rattle.hearing.specs.Flags.{flags_in, number_in, dates_of, flags_ended}
use Rattle.hearing.specs.Lines.{Heard}
use Rattle.calls.specs.Names.{word_of, flags_fit}

-- what a call answers, given the flags of D as a number and the line's numbers after its name
abbrev pub word_said : Word → ℕ → List ℕ → List ℕ
word_said Check dates ns = check_said dates ns
word_said Scan dates ns = scan_said dates ns
word_said Independent dates ns = independent_said dates ns
word_said (Choice word) dates ns = choice_said word dates ns
word_said (Table word) dates ns = tabled_said word dates ns
word_said Side dates ns = side_said dates ns
word_said P2r dates ns = p2r_said ns
word_said R2p dates ns = r2p_said ns
word_said Unknown dates ns = bad_said

-- what it leaves of them: r2p writes its run in place, and no other call writes
abbrev pub word_left : Word → List ℕ → List ℕ
word_left Check ns = ns
word_left Scan ns = ns
word_left Independent ns = ns
word_left (Choice word) ns = ns
word_left (Table word) ns = ns
word_left Side ns = ns
word_left P2r ns = ns
word_left R2p ns = r2p_left ns
word_left Unknown ns = ns

-- the same, unless the call may not have such flags
unfoldable pub flagged_said : Word → Flags → List ℕ → List ℕ
flagged_said word flags ns = pick (flags_fit word flags) (word_said word (dates_of flags) ns) bad_said

unfoldable pub flagged_left : Word → Flags → List ℕ → List ℕ
flagged_left word flags ns = pick (flags_fit word flags) (word_left word ns) ns

-- ---- of a line's bytes
-- a name alone, and nothing, are no calls; every other word has to be a number, and the first may have flags
abbrev pub words_said : List (List ℕ) → List ℕ
words_said [] = bad_said
words_said (name ∷ []) = bad_said
words_said (name ∷ n ∷ ns) =
    pick (all_numbers (number_in n ∷ ns)) (flagged_said (word_of name) (flags_in n) (values_of (number_in n ∷ ns))) bad_said

-- a line's words are parted by single blanks
abbrev pub answer_to : List ℕ → List ℕ
answer_to line = words_said (cells_in 32 line)

-- ---- of a line as it has been heard
-- where its name has ended: every number stands, there was room for it, and k bytes of the name are there
unfoldable pub is_call : ℕ → List ℕ → Row → List ℕ → Bool
is_call k name row run = good row and leb row.cells (length run) and leb k (length name)

abbrev pub named_said : ℕ → List ℕ → Flags → Row → List ℕ → List ℕ
named_said k name flags row run = pick (is_call k name row run) (flagged_said (word_of (take k name)) flags (take row.cells run)) bad_said

-- what is left of the run: past the call's numbers it stays
abbrev pub named_left : ℕ → List ℕ → Flags → Row → List ℕ → List ℕ
named_left k name flags row run =
    pick (is_call k name row run) (flagged_left (word_of (take k name)) flags (take row.cells run) ++ drop row.cells run) run

-- the line's end ends its last number, and the flags
unfoldable pub answer_said : Heard → List ℕ
answer_said s =
    pick s.line.named
    (named_said s.line.length s.name (flags_ended s.line.flags) (row_next s.line.row) (kept_at s.line.row 0 s.numbers))
    bad_said

unfoldable pub answer_left : Heard → List ℕ
answer_left s =
    pick s.line.named
    (named_left s.line.length s.name (flags_ended s.line.flags) (row_next s.line.row) (kept_at s.line.row 0 s.numbers))
    s.numbers
