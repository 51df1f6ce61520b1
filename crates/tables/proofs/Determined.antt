-- Any two results that a public function's contract allows for the same arguments are equal: each contract is one equation, `r ≡ ..`.
-- `Learnt` is what a caller learns of a call, as the checker reads it off the contract's `ensures`; `ps` and `r` are its parameters' and
-- its result's types.
-- Assumes nothing.
use mathlib.Core.Path.{sym, ◌∙◌}
use Rattle.ranges.proofs.OneAnswer.{OneAnswer}
use Rattle.tables.proofs.layout.table_length.Kinds as table_length_kinds
use Rattle.tables.proofs.layout.table_length.Reads as table_length_reads
use Rattle.tables.proofs.layout.order_at.Kinds as order_at_kinds
use Rattle.tables.proofs.layout.order_at.Reads as order_at_reads
use Rattle.tables.proofs.layout.start_at.Kinds as start_at_kinds
use Rattle.tables.proofs.layout.start_at.Reads as start_at_reads
use Rattle.tables.proofs.layout.least_at.Kinds as least_at_kinds
use Rattle.tables.proofs.layout.least_at.Reads as least_at_reads
use Rattle.tables.proofs.layout.from_at.Kinds as from_at_kinds
use Rattle.tables.proofs.layout.from_at.Reads as from_at_reads
use Rattle.tables.proofs.layout.to_at.Kinds as to_at_kinds
use Rattle.tables.proofs.layout.to_at.Reads as to_at_reads
use Rattle.tables.proofs.read.part_count.Kinds as part_count_kinds
use Rattle.tables.proofs.read.part_count.Reads as part_count_reads
use Rattle.tables.proofs.read.rule_at.Kinds as rule_at_kinds
use Rattle.tables.proofs.read.rule_at.Reads as rule_at_reads
use Rattle.tables.proofs.read.start_of.Kinds as start_of_kinds
use Rattle.tables.proofs.read.start_of.Reads as start_of_reads
use Rattle.tables.proofs.read.end_of.Kinds as end_of_kinds
use Rattle.tables.proofs.read.end_of.Reads as end_of_reads
use Rattle.tables.proofs.read.least_of.Kinds as least_of_kinds
use Rattle.tables.proofs.read.least_of.Reads as least_of_reads
use Rattle.tables.proofs.read.run_from.Kinds as run_from_kinds
use Rattle.tables.proofs.read.run_from.Reads as run_from_reads
use Rattle.tables.proofs.read.run_to.Kinds as run_to_kinds
use Rattle.tables.proofs.read.run_to.Reads as run_to_reads
use Rattle.tables.proofs.read.part_stands.Kinds as part_stands_kinds
use Rattle.tables.proofs.read.part_stands.Reads as part_stands_reads
use Rattle.tables.proofs.opening.open_fault.Kinds as open_fault_kinds
use Rattle.tables.proofs.opening.open_fault.Reads as open_fault_reads
use Rattle.tables.proofs.report.report.Kinds as report_kinds
use Rattle.tables.proofs.report.report.Reads as report_reads

pub table_length_one : OneAnswer 0 table_length_kinds.ps table_length_kinds.r table_length_reads.Learnt
table_length_one κs a x y e g p q = p ∙ sym q

pub order_at_one : OneAnswer 0 order_at_kinds.ps order_at_kinds.r order_at_reads.Learnt
order_at_one κs a x y e g p q = p ∙ sym q

pub start_at_one : OneAnswer 0 start_at_kinds.ps start_at_kinds.r start_at_reads.Learnt
start_at_one κs a x y e g p q = p ∙ sym q

pub least_at_one : OneAnswer 0 least_at_kinds.ps least_at_kinds.r least_at_reads.Learnt
least_at_one κs a x y e g p q = p ∙ sym q

pub from_at_one : OneAnswer 0 from_at_kinds.ps from_at_kinds.r from_at_reads.Learnt
from_at_one κs a x y e g p q = p ∙ sym q

pub to_at_one : OneAnswer 0 to_at_kinds.ps to_at_kinds.r to_at_reads.Learnt
to_at_one κs a x y e g p q = p ∙ sym q

pub part_count_one : OneAnswer 2 part_count_kinds.ps part_count_kinds.r part_count_reads.Learnt
part_count_one κs a x y e g p q = p ∙ sym q

pub rule_at_one : OneAnswer 2 rule_at_kinds.ps rule_at_kinds.r rule_at_reads.Learnt
rule_at_one κs a x y e g p q = p ∙ sym q

pub start_of_one : OneAnswer 2 start_of_kinds.ps start_of_kinds.r start_of_reads.Learnt
start_of_one κs a x y e g p q = p ∙ sym q

pub end_of_one : OneAnswer 2 end_of_kinds.ps end_of_kinds.r end_of_reads.Learnt
end_of_one κs a x y e g p q = p ∙ sym q

pub least_of_one : OneAnswer 2 least_of_kinds.ps least_of_kinds.r least_of_reads.Learnt
least_of_one κs a x y e g p q = p ∙ sym q

pub run_from_one : OneAnswer 2 run_from_kinds.ps run_from_kinds.r run_from_reads.Learnt
run_from_one κs a x y e g p q = p ∙ sym q

pub run_to_one : OneAnswer 2 run_to_kinds.ps run_to_kinds.r run_to_reads.Learnt
run_to_one κs a x y e g p q = p ∙ sym q

pub part_stands_one : OneAnswer 2 part_stands_kinds.ps part_stands_kinds.r part_stands_reads.Learnt
part_stands_one κs a x y e g p q = p ∙ sym q

pub open_fault_one : OneAnswer 3 open_fault_kinds.ps open_fault_kinds.r open_fault_reads.Learnt
open_fault_one κs a x y e g p q = p ∙ sym q

pub report_one : OneAnswer 3 report_kinds.ps report_kinds.r report_reads.Learnt
report_one κs a x y e g p q = p ∙ sym q
