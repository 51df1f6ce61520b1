-- What each word answers, given the flags of its D and the line's numbers after it, and what r2p leaves of them. LIST, TABLE and RUN are a length and then
-- that many numbers. Where the numbers are not as the word wants them, the answer is bad.
-- Assumes nothing: these are definitions.
use Rattle.std.specs.Prelude.{ℕ, ◌+◌, List, ◌++◌, Bool, length, get_or, take, drop, leb, eqb}
use Rattle.ranges.specs.Numbers.{pick, ◌and◌}
use Rattle.ranges.specs.Refusals.{number_of}
use Rattle.ranges.specs.Spots.{spot_of}
use Rattle.ranges.specs.Sides.{past_of}
use Rattle.ranges.specs.Prefixes.{bounds_of}
use Rattle.ranges.specs.Blocks.{expand_of, run_after}
use Rattle.lists.specs.Headers.{header_length}
use Rattle.lists.specs.Check.{check_of}
use Rattle.lists.specs.Scan.{scan_of}
use Rattle.lists.specs.Independence.{independence_of}
use Rattle.sorting.specs.Build.{build_of, table_after}
use Rattle.sorting.specs.Brought.{choose_of, run_after as chosenAfter, lay_out_of, laid_after}
use Rattle.auditing.specs.Audit.{audit_of}
use Rattle.tables.specs.Report.{report_of}
use Rattle.lookup.specs.Lookup.{lookup_of}
use Rattle.lists.specs.Rules.{Rules, flag_of}
use Rattle.text.specs.Texts.{bytes}
use Rattle.words.specs.Limits.{list_most, choice_most, table_most, run_most}
use Rattle.phrases.specs.Said.{all_spaced, count_said, bounds_said, match_said, pair_said, found_said, spot_said, verdict_said, part_said}
use Rattle.words.specs.Parts.{from_to, run_end, exactly, list_end, on_end, narrow_end, table_ends, on_ends, shape_in, rules_to, header_at}
use Rattle.words.specs.declared.choice_words.ChoiceWord.{ChoiceWord}
use Rattle.words.specs.declared.choice_words.ChoiceWord.TheVariants.{Choose, Layout}
use Rattle.words.specs.declared.table_words.TableWord.{TableWord}
use Rattle.words.specs.declared.table_words.TableWord.TheVariants.{Build, Lookup, Audit, Report}

-- bad
abbrev pub bad_said : List ℕ
bad_said = bytes "bad"

-- check D LIST
abbrev pub check_said : ℕ → List ℕ → List ℕ
check_said dates ns = on_end (list_end ns 0) (λ e. count_said number_of (check_of (rules_to dates e ns))) bad_said

-- scan D LIST HEADER
abbrev pub scan_said : ℕ → List ℕ → List ℕ
scan_said dates ns = on_end (list_end ns header_length) (λ e. match_said number_of (scan_of (rules_to dates e ns) (header_at e ns))) bad_said

-- independent D LIST
abbrev pub independent_said : ℕ → List ℕ → List ℕ
independent_said dates ns = on_end (list_end ns 0) (λ e. pair_said number_of (independence_of (rules_to dates e ns))) bad_said

-- ---- choose D LIST RUN
-- ok B or the refusal, and then the run's numbers afterwards
abbrev pub chosen_said : Rules → List ℕ → List ℕ
chosen_said R run = count_said number_of (choose_of R run) ++ bytes " run" ++ all_spaced (chosenAfter R run)

-- the list ends at place e
abbrev pub choose_from : ℕ → List ℕ → ℕ → List ℕ
choose_from dates ns e = on_end (exactly ns 0 (narrow_end choice_most ns e)) (λ t. chosen_said (rules_to dates e ns) (from_to (e + 1) t ns)) bad_said

unfoldable pub choose_said : ℕ → List ℕ → List ℕ
choose_said dates ns = on_end (run_end list_most ns 1) (choose_from dates ns) bad_said

-- ---- layout D LIST RUN TABLE
-- ok B or the refusal, and then the table's numbers afterwards
abbrev pub laid_said : Rules → List ℕ → List ℕ → List ℕ
laid_said R run T = count_said number_of (lay_out_of R run T) ++ bytes " table" ++ all_spaced (laid_after R run T)

-- the list ends at place e, and the run at place t
abbrev pub layout_after : ℕ → List ℕ → ℕ → ℕ → List ℕ
layout_after dates ns e t =
    on_end (exactly ns 0 (narrow_end table_most ns t)) (λ u. laid_said (rules_to dates e ns) (from_to (e + 1) t ns) (from_to (t + 1) u ns)) bad_said

abbrev pub layout_from : ℕ → List ℕ → ℕ → List ℕ
layout_from dates ns e = on_end (narrow_end choice_most ns e) (layout_after dates ns e) bad_said

unfoldable pub layout_said : ℕ → List ℕ → List ℕ
layout_said dates ns = on_end (run_end list_most ns 1) (layout_from dates ns) bad_said

abbrev pub choice_said : ChoiceWord → ℕ → List ℕ → List ℕ
choice_said Choose dates ns = choose_said dates ns
choice_said Layout dates ns = layout_said dates ns

-- ---- build D LIST TABLE, lookup D LIST TABLE HEADER, audit D LIST TABLE, report D LIST TABLE P
-- how many numbers follow the table
abbrev pub following : TableWord → ℕ
following Build = 0
following Lookup = header_length
following Audit = 0
following Report = 1

-- ok B or the refusal, and then the table's numbers afterwards
abbrev pub build_said : Rules → List ℕ → List ℕ
build_said R T = count_said number_of (build_of R T) ++ bytes " table" ++ all_spaced (table_after R T)

abbrev pub lookup_said : Rules → List ℕ → List ℕ → List ℕ
lookup_said R T h = found_said number_of (lookup_of R T h)

abbrev pub audit_said : Rules → List ℕ → List ℕ
audit_said R T = verdict_said number_of (audit_of R T)

abbrev pub report_said : Rules → List ℕ → ℕ → List ℕ
report_said R T p = part_said number_of (report_of R T p)

-- what is answered of a list, a table and the numbers that follow
abbrev pub table_said : TableWord → Rules → List ℕ → List ℕ → List ℕ
table_said Build R T rest = build_said R T
table_said Lookup R T rest = lookup_said R T rest
table_said Audit R T rest = audit_said R T
table_said Report R T rest = report_said R T (get_or rest 0 0)

-- the list ends at place e, and the table at place t
abbrev pub tabled_from : TableWord → ℕ → List ℕ → ℕ → ℕ → List ℕ
tabled_from word dates ns e t = table_said word (rules_to dates e ns) (from_to (e + 1) t ns) (from_to t (t + following word) ns)

abbrev pub tabled_said : TableWord → ℕ → List ℕ → List ℕ
tabled_said word dates ns = on_ends (table_ends ns (following word)) (tabled_from word dates ns) bad_said

-- ---- side D FIELD LOW HIGH NUMBER
-- the range is that of a rule in FIELD, one of dates where its flag says so, whatever D is
abbrev pub side_end : ℕ → List ℕ → ℕ
side_end dates ns = past_of (flag_of (shape_in dates ns) (get_or ns 1 0)) (get_or ns 3 0)

unfoldable pub side_said : ℕ → List ℕ → List ℕ
side_said dates ns = pick (eqb (length ns) 5) (spot_said (spot_of (get_or ns 2 0) (side_end dates ns) (get_or ns 4 0))) bad_said

-- ---- p2r VALUE LENGTH WIDTH
unfoldable pub p2r_said : List ℕ → List ℕ
p2r_said ns = pick (eqb (length ns) 3) (bounds_said number_of (bounds_of (get_or ns 2 0) (get_or ns 0 0) (get_or ns 1 0))) bad_said

-- ---- r2p LOW HIGH WIDTH RUN, the run's length and numbers from place 3 on
-- the numbers are as the word wants them
unfoldable pub r2p_stands : List ℕ → Bool
r2p_stands ns = leb 4 (length ns) and leb (get_or ns 3 0) run_most and eqb (length ns) (4 + get_or ns 3 0)

abbrev pub expanded_said : ℕ → ℕ → ℕ → List ℕ → List ℕ
expanded_said width low high run = count_said number_of (expand_of width low high run) ++ bytes " run" ++ all_spaced (run_after width low high run)

abbrev pub r2p_said : List ℕ → List ℕ
r2p_said ns = pick (r2p_stands ns) (expanded_said (get_or ns 2 0) (get_or ns 0 0) (get_or ns 1 0) (drop 4 ns)) bad_said

-- the line's numbers afterwards: the run as the library left it; where the answer is bad, as they were
abbrev pub r2p_left : List ℕ → List ℕ
r2p_left ns = pick (r2p_stands ns) (take 4 ns ++ run_after (get_or ns 2 0) (get_or ns 0 0) (get_or ns 1 0) (drop 4 ns)) ns
