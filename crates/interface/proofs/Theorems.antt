-- The numbers that C gets lose nothing: what the library answers is read back from them, for every input. By the readers of
-- `Back.antt`, which get every answer back.
--     check_told           cuy_check
--     scan_told            cuy_plain_scan
--     independence_told    cuy_independence
--     choose_told          cuy_choose
--     lay_out_told         cuy_lay_out
--     build_told           cuy_build
--     lookup_told          cuy_lookup
--     audit_told           cuy_audit
--     report_told          cuy_report
--     range_told           cuy_prefix_to_range
--     prefixes_told        cuy_range_to_prefixes
-- Assumes nothing.
use Prim.Native.Nat.{ℕ}
use mathlib.Core.List.{List}
use mathlib.Core.Path.{◌≡◌}
use Rattle.ranges.specs.Refusals.{says_count}
use Rattle.ranges.specs.Prefixes.{bounds_of, says_bounds}
use Rattle.ranges.specs.Blocks.{expand_of}
use Rattle.lists.specs.Rules.{Rules}
use Rattle.lists.specs.Check.{check_of}
use Rattle.lists.specs.Scan.{scan_of, says_match}
use Rattle.lists.specs.Independence.{independence_of, says_pair}
use Rattle.sorting.specs.Build.{build_of}
use Rattle.sorting.specs.Brought.{choose_of, lay_out_of}
use Rattle.auditing.specs.Audit.{audit_of, says_verdict}
use Rattle.tables.specs.Report.{report_of, says_part}
use Rattle.lookup.specs.Lookup.{lookup_of}
use Rattle.interface.specs.Answers.{numbers_of, says_in_place}
use Rattle.interface.proofs.Back.{count_back, count_back_lem, bounds_back, bounds_back_lem, match_back, match_back_lem, pair_back, pair_back_lem, verdict_back, verdict_back_lem, part_back, part_back_lem, looked_back, looked_back_lem}

pub check_told : (R : Rules) → count_back (numbers_of 1 (says_count (check_of R))) ≡ check_of R
check_told R = count_back_lem (check_of R)

pub prefixes_told : (w low high : ℕ) (run : List ℕ) → count_back (numbers_of 1 (says_count (expand_of w low high run))) ≡ expand_of w low high run
prefixes_told w low high run = count_back_lem (expand_of w low high run)

pub range_told : (w value len : ℕ) → bounds_back (numbers_of 2 (says_bounds (bounds_of w value len))) ≡ bounds_of w value len
range_told w value len = bounds_back_lem (bounds_of w value len)

pub scan_told : (R : Rules) (h : List ℕ) → match_back (numbers_of 2 (says_match (scan_of R h))) ≡ scan_of R h
scan_told R h = match_back_lem (scan_of R h)

pub independence_told : (R : Rules) → pair_back (numbers_of 3 (says_pair (independence_of R))) ≡ independence_of R
independence_told R = pair_back_lem (independence_of R)

pub build_told : (R : Rules) (T : List ℕ) → count_back (numbers_of 1 (says_count (build_of R T))) ≡ build_of R T
build_told R T = count_back_lem (build_of R T)

pub choose_told : (R : Rules) (run : List ℕ) → count_back (numbers_of 1 (says_count (choose_of R run))) ≡ choose_of R run
choose_told R run = count_back_lem (choose_of R run)

pub lay_out_told : (R : Rules) (run T : List ℕ) → count_back (numbers_of 1 (says_count (lay_out_of R run T))) ≡ lay_out_of R run T
lay_out_told R run T = count_back_lem (lay_out_of R run T)

pub audit_told : (R : Rules) (T : List ℕ) → verdict_back (numbers_of 1 (says_verdict (audit_of R T))) ≡ audit_of R T
audit_told R T = verdict_back_lem (audit_of R T)

pub report_told : (R : Rules) (T : List ℕ) (q : ℕ) → part_back (numbers_of 2 (says_part (report_of R T q))) ≡ report_of R T q
report_told R T q = part_back_lem (report_of R T q)

pub lookup_told : (R : Rules) (T h : List ℕ) → looked_back (numbers_of 4 (says_in_place (lookup_of R T h))) ≡ lookup_of R T h
lookup_told R T h = looked_back_lem (lookup_of R T h)
