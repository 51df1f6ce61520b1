-- Any two results that an exported function's contract allows for the same arguments are equal, and so are any two runs that it leaves: the
-- answer, and the table or the run of prefixes where the call writes one. `Learnt` is what a caller learns of a call, as the checker reads
-- it off the contract's `ensures`; `ps` and `r` are its parameters' and its result's types.
-- Assumes nothing.
use Prim.Native.Nat.{ℕ}
use mathlib.Core.List.{List}
use mathlib.Core.Path.{◌≡◌, sym, ◌∙◌}
use Rattle.ranges.specs.Refusals.{Said}
use Rattle.ranges.proofs.OneAnswer.{OneAnswer, OneRun}
use Rattle.interface.specs.Answers.{Told}
use Rattle.interface.proofs.list.cuy_check.Kinds as cuy_check_kinds
use Rattle.interface.proofs.list.cuy_check.Reads as cuy_check_reads
use Rattle.interface.proofs.list.cuy_plain_scan.Kinds as cuy_plain_scan_kinds
use Rattle.interface.proofs.list.cuy_plain_scan.Reads as cuy_plain_scan_reads
use Rattle.interface.proofs.list.cuy_independence.Kinds as cuy_independence_kinds
use Rattle.interface.proofs.list.cuy_independence.Reads as cuy_independence_reads
use Rattle.interface.proofs.table.cuy_choose.Kinds as cuy_choose_kinds
use Rattle.interface.proofs.table.cuy_choose.Reads as cuy_choose_reads
use Rattle.interface.proofs.table.cuy_lay_out.Kinds as cuy_lay_out_kinds
use Rattle.interface.proofs.table.cuy_lay_out.Reads as cuy_lay_out_reads
use Rattle.interface.proofs.table.cuy_build.Kinds as cuy_build_kinds
use Rattle.interface.proofs.table.cuy_build.Reads as cuy_build_reads
use Rattle.interface.proofs.table.cuy_lookup.Kinds as cuy_lookup_kinds
use Rattle.interface.proofs.table.cuy_lookup.Reads as cuy_lookup_reads
use Rattle.interface.proofs.table.cuy_audit.Kinds as cuy_audit_kinds
use Rattle.interface.proofs.table.cuy_audit.Reads as cuy_audit_reads
use Rattle.interface.proofs.table.cuy_report.Kinds as cuy_report_kinds
use Rattle.interface.proofs.table.cuy_report.Reads as cuy_report_reads
use Rattle.interface.proofs.prefix.cuy_prefix_to_range.Kinds as cuy_prefix_to_range_kinds
use Rattle.interface.proofs.prefix.cuy_prefix_to_range.Reads as cuy_prefix_to_range_reads
use Rattle.interface.proofs.prefix.cuy_range_to_prefixes.Kinds as cuy_range_to_prefixes_kinds
use Rattle.interface.proofs.prefix.cuy_range_to_prefixes.Reads as cuy_range_to_prefixes_reads
use Rattle.interface.proofs.version.cuy_version.Kinds as cuy_version_kinds
use Rattle.interface.proofs.version.cuy_version.Reads as cuy_version_reads

module _ {k : ℕ} {s : Said} {r r' : ℕ} {run run' : List ℕ} (p : Told k s r run) (q : Told k s r' run') where
  returned_one : r ≡ r'
  returned_one = p.returned ∙ sym q.returned

  written_one : run ≡ run'
  written_one = p.written ∙ sym q.written

pub check_one : OneAnswer 2 cuy_check_kinds.ps cuy_check_kinds.r cuy_check_reads.Learnt
check_one κs a x y e g p q = returned_one p q

pub check_answer_one : OneRun 2 cuy_check_kinds.ps cuy_check_kinds.r cuy_check_reads.Learnt (λ κs e. e.1.1.1.0.now)
check_answer_one κs a x y e g p q = written_one p q

pub plain_scan_one : OneAnswer 3 cuy_plain_scan_kinds.ps cuy_plain_scan_kinds.r cuy_plain_scan_reads.Learnt
plain_scan_one κs a x y e g p q = returned_one p q

pub plain_scan_answer_one : OneRun 3 cuy_plain_scan_kinds.ps cuy_plain_scan_kinds.r cuy_plain_scan_reads.Learnt (λ κs e. e.1.1.1.1.0.now)
plain_scan_answer_one κs a x y e g p q = written_one p q

pub independence_one : OneAnswer 2 cuy_independence_kinds.ps cuy_independence_kinds.r cuy_independence_reads.Learnt
independence_one κs a x y e g p q = returned_one p q

pub independence_answer_one : OneRun 2 cuy_independence_kinds.ps cuy_independence_kinds.r cuy_independence_reads.Learnt (λ κs e. e.1.1.1.0.now)
independence_answer_one κs a x y e g p q = written_one p q

pub choose_one : OneAnswer 3 cuy_choose_kinds.ps cuy_choose_kinds.r cuy_choose_reads.Learnt
choose_one κs a x y e g p q = returned_one p.0 q.0

pub choose_answer_one : OneRun 3 cuy_choose_kinds.ps cuy_choose_kinds.r cuy_choose_reads.Learnt (λ κs e. e.1.1.1.1.0.now)
choose_answer_one κs a x y e g p q = written_one p.0 q.0

pub choose_run_one : OneRun 3 cuy_choose_kinds.ps cuy_choose_kinds.r cuy_choose_reads.Learnt (λ κs e. e.1.1.1.0.now)
choose_run_one κs a x y e g p q = p.1 ∙ sym q.1

pub lay_out_one : OneAnswer 4 cuy_lay_out_kinds.ps cuy_lay_out_kinds.r cuy_lay_out_reads.Learnt
lay_out_one κs a x y e g p q = returned_one p.0 q.0

pub lay_out_answer_one : OneRun 4 cuy_lay_out_kinds.ps cuy_lay_out_kinds.r cuy_lay_out_reads.Learnt (λ κs e. e.1.1.1.1.1.0.now)
lay_out_answer_one κs a x y e g p q = written_one p.0 q.0

pub lay_out_table_one : OneRun 4 cuy_lay_out_kinds.ps cuy_lay_out_kinds.r cuy_lay_out_reads.Learnt (λ κs e. e.1.1.1.1.0.now)
lay_out_table_one κs a x y e g p q = p.1 ∙ sym q.1

pub build_one : OneAnswer 3 cuy_build_kinds.ps cuy_build_kinds.r cuy_build_reads.Learnt
build_one κs a x y e g p q = returned_one p.0 q.0

pub build_answer_one : OneRun 3 cuy_build_kinds.ps cuy_build_kinds.r cuy_build_reads.Learnt (λ κs e. e.1.1.1.1.0.now)
build_answer_one κs a x y e g p q = written_one p.0 q.0

pub build_table_one : OneRun 3 cuy_build_kinds.ps cuy_build_kinds.r cuy_build_reads.Learnt (λ κs e. e.1.1.1.0.now)
build_table_one κs a x y e g p q = p.1 ∙ sym q.1

pub lookup_one : OneAnswer 4 cuy_lookup_kinds.ps cuy_lookup_kinds.r cuy_lookup_reads.Learnt
lookup_one κs a x y e g p q = returned_one p q

pub lookup_answer_one : OneRun 4 cuy_lookup_kinds.ps cuy_lookup_kinds.r cuy_lookup_reads.Learnt (λ κs e. e.1.1.1.1.1.0.now)
lookup_answer_one κs a x y e g p q = written_one p q

pub audit_one : OneAnswer 3 cuy_audit_kinds.ps cuy_audit_kinds.r cuy_audit_reads.Learnt
audit_one κs a x y e g p q = returned_one p q

pub audit_answer_one : OneRun 3 cuy_audit_kinds.ps cuy_audit_kinds.r cuy_audit_reads.Learnt (λ κs e. e.1.1.1.1.0.now)
audit_answer_one κs a x y e g p q = written_one p q

pub report_one : OneAnswer 3 cuy_report_kinds.ps cuy_report_kinds.r cuy_report_reads.Learnt
report_one κs a x y e g p q = returned_one p q

pub report_answer_one : OneRun 3 cuy_report_kinds.ps cuy_report_kinds.r cuy_report_reads.Learnt (λ κs e. e.1.1.1.1.1.0.now)
report_answer_one κs a x y e g p q = written_one p q

pub prefix_to_range_one : OneAnswer 1 cuy_prefix_to_range_kinds.ps cuy_prefix_to_range_kinds.r cuy_prefix_to_range_reads.Learnt
prefix_to_range_one κs a x y e g p q = returned_one p q

pub prefix_to_range_answer_one : OneRun 1 cuy_prefix_to_range_kinds.ps cuy_prefix_to_range_kinds.r cuy_prefix_to_range_reads.Learnt (λ κs e. e.1.1.1.0.now)
prefix_to_range_answer_one κs a x y e g p q = written_one p q

pub range_to_prefixes_one : OneAnswer 2 cuy_range_to_prefixes_kinds.ps cuy_range_to_prefixes_kinds.r cuy_range_to_prefixes_reads.Learnt
range_to_prefixes_one κs a x y e g p q = returned_one p.0 q.0

pub range_to_prefixes_answer_one : OneRun 2 cuy_range_to_prefixes_kinds.ps cuy_range_to_prefixes_kinds.r cuy_range_to_prefixes_reads.Learnt (λ κs e. e.1.1.1.1.0.now)
range_to_prefixes_answer_one κs a x y e g p q = written_one p.0 q.0

pub range_to_prefixes_run_one : OneRun 2 cuy_range_to_prefixes_kinds.ps cuy_range_to_prefixes_kinds.r cuy_range_to_prefixes_reads.Learnt (λ κs e. e.1.1.1.0.now)
range_to_prefixes_run_one κs a x y e g p q = p.1 ∙ sym q.1

pub version_one : OneAnswer 0 cuy_version_kinds.ps cuy_version_kinds.r cuy_version_reads.Learnt
version_one κs a x y e g p q = p ∙ sym q
