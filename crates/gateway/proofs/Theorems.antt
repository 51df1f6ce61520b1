-- The headline statements about the program. rps and hps are pieces of the rules file and of the headers file, cut anywhere; rb and hb are
-- the bytes of the two files, any at all.
--
--     program_is             what the code's functions put, piece after piece as `serve` hands them on, is `program_of` of the joined bytes
--     rules_flaw_is          what is said of the rules is the first flaw of their file, and its number is the one that is printed
--     headers_flaws_are      what is said of the headers is how many of their lines are refused, which is the first, and why
--     refused_alone          a fault in the rules prints its one line and nothing else
--     answers_all            else the line rule,tests, and an answer to each header line in its order
--     line_first_match       a header line that is read is answered with the first rule that fits, or none
--     rules_without_headers  no header line: the line rule,tests alone
--     no_rules_lem               an empty rules file is refused with 1
--
-- The contracts tie the code to these definitions. `rules_piece` and `rules_end` make `rules_pieces`, `open_rules` makes `opened_said`, and
-- `headers_piece` and `headers_end` make `pieces_said`, whatever bytes of a piece each call takes; `put_rules_flaw` and
-- `put_headers_flaws` say the rest. `rules_all`, `answer_piece` and `headers_all` hand each piece on with the state that the one before left.
-- What is left to testing stands in docs/PROMISES.md.
-- Assumes nothing.
use Prim.Native.Nat.{ℕ, ◌≤◌}
use mathlib.Core.Bool.{Bool, true, false}
use mathlib.Core.List.{List, [], ◌++◌, flatten, append-nil}
use mathlib.Core.Path.{◌≡◌, refl, sym, ap, ◌∙◌}
use native.Mathlib.Omega.{arith}
use borrow.Author.Tests.{eq-eqb, ne_eqb, eqb-true, eqb-false}
use lib.Dec.{eqb}
use lib.ListN.{length}
use Rattle.std.specs.Prelude.{Option, None, Some, is_none}
use Rattle.ranges.specs.Numbers.{pick}
use Rattle.ranges.specs.Refusals.{none, number_of, number_in}
use Rattle.ranges.proofs.InARow.{by_number}
use Rattle.lists.specs.Limits.{most_fields, most_numbers}
use Rattle.lists.specs.Rules.{Rules, fields_of}
use Rattle.lists.specs.Faults.{list_fault}
use Rattle.lists.specs.FirstMatch.{first_match}
use Rattle.lists.specs.Headers.{zeros}
use Rattle.lists.proofs.Sound.{list_shaped}
use Rattle.tables.specs.Layout.{most_table}
use Rattle.sorting.specs.Table.{built_table}
use Rattle.lookup.specs.Lookup.{lookup_of, answer_of, tests_in}
use Rattle.lookup.proofs.Theorems.{built_lookup}
use Rattle.text.specs.Rows.{all_numbers}
use Rattle.text.specs.Files.{lines_of}
use Rattle.text.specs.Lines.{cells_of}
use Rattle.text.specs.Judging.{Judged}
use Rattle.rulesfile.specs.Faults.{reading_fault, rules_from, rules_fault}
use Rattle.rulesfile.specs.Flaws.{file_flaw}
use Rattle.flaws.specs.Numbered.{flaw_number, number_of_flaw}
use Rattle.flaws.specs.declared.flaw.Flaw.{Flaw}
use Rattle.rulesfile.specs.Bytes.{no_rules, rules_in_file, rules_pieces}
use Rattle.rulesfile.specs.Tabled.{tabled_flaw}
use Rattle.rulesfile.specs.declared.file.RulesSoFar.{RulesSoFar}
use Rattle.rulesfile.proofs.Flaws.{number_none}
use Rattle.rulesfile.proofs.Ended.{TableStands}
use Rattle.rulesfile.proofs.Theorems.{file_read, flaw_number_is}
use Rattle.answers.specs.Said.{head_said, refused_said, looked_said}
use Rattle.answers.specs.HeaderLines.{header_of, line_said, lines_said, refused_among}
use Rattle.gateway.specs.HeaderBytes.{no_headers, headers_in_file}
use Rattle.answers.specs.Counts.{headers_so_far, most_count}
use Rattle.gateway.specs.Serving.{RulesFrom, HeadersFrom}
use Rattle.gateway.specs.Program.{answers_said, program_of, pieces_said, served_by, served}
use Rattle.answers.specs.declared.count.HeadersSoFar.{HeadersSoFar}
use Rattle.answers.proofs.Counting.{counted_is}
use Rattle.answers.specs.Opened.{opened_said}
use Rattle.gateway.proofs.HeadersRead.{headers_read}
use Rattle.gateway.proofs.Pieces.{pieces_whole}

-- rules without a fault have at most eight fields
stands_checked : (ls : List (List ℕ)) → rules_fault ls ≡ 0 → list_fault (rules_from ls) ≡ none
stands_checked ls fine = by_number (list_fault (rules_from ls)) (go (eqb (reading_fault ls) 0) refl fine)
  where
    go : (t : Bool) → eqb (reading_fault ls) 0 ≡ t → pick t (number_in (list_fault (rules_from ls))) (reading_fault ls) ≡ 0 → number_in (list_fault (rules_from ls)) ≡ 0
    go true p e = e
    go false p e = absurd (eqb-false (reading_fault ls) 0 p e)

few_fields : (ls : List (List ℕ)) → rules_fault ls ≡ 0 → fields_of (rules_from ls) ≤ most_fields
few_fields ls none = (list_shaped (rules_from ls) (stands_checked ls none)).few_fields

-- ---- what is printed
module _ (y : Judged RulesSoFar) (ls : List (List ℕ)) (table : List ℕ) (stands : TableStands ls y table) (hps : List (List ℕ)) where
  number_is : number_of_flaw (tabled_flaw y.own y.run table) ≡ rules_fault ls
  number_is = ap number_of_flaw stands.flaw ∙ flaw_number_is ls

  -- a fault
  served-fault : (rules_fault ls ≡ 0 → ⊥) → served_by y table hps ≡ refused_said (rules_fault ls)
  served-fault some = go (tabled_flaw y.own y.run table) _ number_is
    where
      go : (f : Option Flaw) (answers : List ℕ) → number_of_flaw f ≡ rules_fault ls → opened_said f ++ pick (is_none f) answers [] ≡ refused_said (rules_fault ls)
      go None answers n = absurd (some (sym n))
      go (Some f) answers n = append-nil (refused_said (flaw_number f)) ∙ ap refused_said n

  -- rules that stand
  served_answers : rules_fault ls ≡ 0 → served_by y table hps ≡ answers_said (rules_from ls) (lines_of (flatten hps))
  served_answers none =
      let fine : tabled_flaw y.own y.run table ≡ None = number_none (tabled_flaw y.own y.run table) (number_is ∙ none) in
      let fine' : file_flaw ls ≡ None = number_none (file_flaw ls) (flaw_number_is ls ∙ none) in
      let R = rules_from ls in
      let said : pieces_said R (built_table R) (headers_in_file no_headers zeros []) hps ≡ lines_said R (built_table R) (lines_of (flatten hps))
      = pieces_whole R (built_table R) hps (headers_in_file no_headers zeros []) ∙ ap (λ a. a.said) (headers_read R (built_table R) (few_fields ls none) (flatten hps)) in
      rw (fine, stands.list fine', stands.built fine') (ap (λ w. head_said ++ w) said)

-- whatever list and table hold at first, as long as they have room for the longest
pub program_is : (list table : List ℕ) → length list ≡ most_numbers → length table ≡ most_table → (rps hps : List (List ℕ))
    → served list table rps hps ≡ program_of (flatten rps) (flatten hps)
unfolding program_of
program_is list table long size rps hps = go (eqb (rules_fault (lines_of (flatten rps))) 0) refl
  where
    y : Judged RulesSoFar
    y = rules_pieces (rules_in_file no_rules list) rps

    stands : TableStands (lines_of (flatten rps)) y table
    stands = file_read rps list table long size

    go : (t : Bool) → eqb (rules_fault (lines_of (flatten rps))) 0 ≡ t
        → served_by y table hps ≡ pick t (answers_said (rules_from (lines_of (flatten rps))) (lines_of (flatten hps))) (refused_said (rules_fault (lines_of (flatten rps))))
    go true e = served_answers y (lines_of (flatten rps)) table stands hps (eqb-true (rules_fault (lines_of (flatten rps))) 0 e)
    go false e = served-fault y (lines_of (flatten rps)) table stands hps (eqb-false (rules_fault (lines_of (flatten rps))) 0 e)

-- ---- what is said of them
-- rules and list as `read_rules` leaves them
pub rules_flaw_is : (list table : List ℕ) → length list ≡ most_numbers → length table ≡ most_table → {rules : RulesSoFar} {after : List ℕ} → (come : RulesFrom list rules after)
    → tabled_flaw rules after table ≡ file_flaw (lines_of (flatten come.pieces))
rules_flaw_is list table long size come =
    ap (λ y. tabled_flaw y.own y.run table) come.are ∙ (file_read come.pieces list table long size).flaw

-- headers as `answer_headers` leaves them, for a list of at most eight fields and any table
pub headers_flaws_are : (R : Rules) (T : List ℕ) → fields_of R ≤ most_fields → {headers : HeadersSoFar} → (come : HeadersFrom R T zeros headers)
    → length (lines_of (flatten come.pieces)) ≤ most_count
    → let ls = lines_of (flatten come.pieces) in
    headers ≡ headers_so_far (length ls) (refused_among (fields_of R) 0 ls)
headers_flaws_are R T few come many =
    come.are ∙ ap (λ a. a.headers) (headers_read R T few (flatten come.pieces)) ∙ counted_is (fields_of R) (lines_of (flatten come.pieces)) many

-- ---- what that says of the lines
module _ (rb hb : List ℕ) where
  -- whoever reads the output may rely on a single line
  pub refused_alone : (rules_fault (lines_of rb) ≡ 0 → ⊥) → program_of rb hb ≡ refused_said (rules_fault (lines_of rb))
  unfolding program_of
  refused_alone some = rw (ne_eqb (rules_fault (lines_of rb)) 0 some)

  pub answers_all : rules_fault (lines_of rb) ≡ 0 → program_of rb hb ≡ head_said ++ lines_said (rules_from (lines_of rb)) (built_table (rules_from (lines_of rb))) (lines_of hb)
  unfolding program_of
  answers_all none = rw (eq-eqb (rules_fault (lines_of rb)) 0 none)

-- an empty or missing rules file, whatever the headers
pub no_rules_lem : (hb : List ℕ) → program_of [] hb ≡ refused_said 1
no_rules_lem hb = refused_alone [] hb (λ e. omega arith)

-- an empty or missing headers file
pub rules_without_headers : (rb : List ℕ) → rules_fault (lines_of rb) ≡ 0 → program_of rb [] ≡ head_said
rules_without_headers rb none = answers_all rb [] none ∙ append-nil head_said

-- a header line of d cells, all numbers, is answered with the first rule that fits it, or none, and the tests of the lookup
pub line_first_match : (ls : List (List ℕ)) → rules_fault ls ≡ 0 → (l : List ℕ) → all_numbers (cells_of l) ≡ true → length (cells_of l) ≡ fields_of (rules_from ls)
    → let R = rules_from ls in
    let h = header_of (cells_of l) in
    line_said R (built_table R) l ≡ looked_said number_of (answer_of R h (first_match R h) (tests_in (lookup_of R (built_table R) h)))
line_first_match ls none l good count =
    let R = rules_from ls in
    let h = header_of (cells_of l) in
    rw (good, eq-eqb (length (cells_of l)) (fields_of R) count) (ap (looked_said number_of) (built_lookup R (stands_checked ls none) h))
