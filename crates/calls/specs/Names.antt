-- The names of the calls, and which of them have a D, which may have flags.
-- Assumes nothing: these are definitions.
use Rattle.std.specs.Prelude.{ℕ, Bool, true, false, List}
use Rattle.ranges.specs.Numbers.{pick, same_list}
use Rattle.text.specs.Texts.{bytes}
use Rattle.calls.specs.declared.word.Word.{Word}
use Rattle.calls.specs.declared.word.Word.TheVariants.{Check, Scan, Independent, Choice, Table, Side, P2r, R2p, Unknown}
use Rattle.hearing.specs.declared.flags.Flags.{Flags}
use Rattle.hearing.specs.declared.flags.Flags.TheVariants.{Without, Read, Bad}
use Rattle.words.specs.declared.choice_words.ChoiceWord.TheVariants.{Choose, Layout}
use Rattle.words.specs.declared.table_words.TableWord.TheVariants.{Build, Lookup, Audit, Report}

-- the calls of ranges and prefixes
unfoldable pub prefix_word : List ℕ → Word
prefix_word name =
    pick (same_list name (bytes "side")) Side
    (pick (same_list name (bytes "p2r")) P2r
    (pick (same_list name (bytes "r2p")) R2p
    Unknown))

-- the calls of a list and a choice of partitions, and those above
unfoldable pub choice_word : List ℕ → Word
choice_word name =
    pick (same_list name (bytes "choose")) (Choice Choose)
    (pick (same_list name (bytes "layout")) (Choice Layout)
    (prefix_word name))

-- the calls of a list and a table, and those above
unfoldable pub table_word : List ℕ → Word
table_word name =
    pick (same_list name (bytes "build")) (Table Build)
    (pick (same_list name (bytes "lookup")) (Table Lookup)
    (pick (same_list name (bytes "audit")) (Table Audit)
    (pick (same_list name (bytes "report")) (Table Report)
    (choice_word name))))

-- which call a name asks for
unfoldable pub word_of : List ℕ → Word
word_of name =
    pick (same_list name (bytes "check")) Check
    (pick (same_list name (bytes "scan")) Scan
    (pick (same_list name (bytes "independent")) Independent
    (table_word name)))

-- a call's first number is D
abbrev pub has_d : Word → Bool
has_d Check = true
has_d Scan = true
has_d Independent = true
has_d (Choice word) = true
has_d (Table word) = true
has_d Side = true
has_d P2r = false
has_d R2p = false
has_d Unknown = false

-- it may have such flags: eight flags for D, or none
abbrev pub flags_fit : Word → Flags → Bool
flags_fit word Without = true
flags_fit word (Read c v) = has_d word
flags_fit word Bad = false
