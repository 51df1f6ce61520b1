-- Any two results that a public function's contract allows for the same arguments are equal: each contract is one equation, `r ≡ ..`.
-- `Learnt` is what a caller learns of a call, as the checker reads it off the contract's `ensures`; `ps` and `r` are its parameters' and
-- its result's types.
-- Assumes nothing.
use mathlib.Core.Path.{sym, ◌∙◌}
use Rattle.ranges.proofs.OneAnswer.{OneAnswer}
use Rattle.lists.proofs.shape.offset_of.Kinds as offset_of_kinds
use Rattle.lists.proofs.shape.offset_of.Reads as offset_of_reads
use Rattle.lists.proofs.shape.rules_in.Kinds as rules_in_kinds
use Rattle.lists.proofs.shape.rules_in.Reads as rules_in_reads
use Rattle.lists.proofs.shape.shape_of.Kinds as shape_of_kinds
use Rattle.lists.proofs.shape.shape_of.Reads as shape_of_reads
use Rattle.lists.proofs.shape.is_date.Kinds as is_date_kinds
use Rattle.lists.proofs.shape.is_date.Reads as is_date_reads
use Rattle.lists.proofs.range.field_range.Kinds as field_range_kinds
use Rattle.lists.proofs.range.field_range.Reads as field_range_reads
use Rattle.lists.proofs.shape.in_list.Kinds as in_list_kinds
use Rattle.lists.proofs.shape.in_list.Reads as in_list_reads
use Rattle.lists.proofs.shape.room_fault.Kinds as room_fault_kinds
use Rattle.lists.proofs.shape.room_fault.Reads as room_fault_reads
use Rattle.lists.proofs.shape.shape_fault.Kinds as shape_fault_kinds
use Rattle.lists.proofs.shape.shape_fault.Reads as shape_fault_reads
use Rattle.lists.proofs.check.list_fault.Kinds as list_fault_kinds
use Rattle.lists.proofs.check.list_fault.Reads as list_fault_reads
use Rattle.lists.proofs.check.check_list.Kinds as check_list_kinds
use Rattle.lists.proofs.check.check_list.Reads as check_list_reads
use Rattle.lists.proofs.scan.rule_fits.Kinds as rule_fits_kinds
use Rattle.lists.proofs.scan.rule_fits.Reads as rule_fits_reads
use Rattle.lists.proofs.edge.rule_edge.Kinds as rule_edge_kinds
use Rattle.lists.proofs.edge.rule_edge.Reads as rule_edge_reads
use Rattle.lists.proofs.scan.plain_scan.Kinds as plain_scan_kinds
use Rattle.lists.proofs.scan.plain_scan.Reads as plain_scan_reads
use Rattle.lists.proofs.independence.independence.Kinds as independence_kinds
use Rattle.lists.proofs.independence.independence.Reads as independence_reads

pub offset_of_one : OneAnswer 0 offset_of_kinds.ps offset_of_kinds.r offset_of_reads.Learnt
offset_of_one κs a x y e g p q = p ∙ sym q

pub rules_in_one : OneAnswer 2 rules_in_kinds.ps rules_in_kinds.r rules_in_reads.Learnt
rules_in_one κs a x y e g p q = p ∙ sym q

pub shape_of_one : OneAnswer 0 shape_of_kinds.ps shape_of_kinds.r shape_of_reads.Learnt
shape_of_one κs a x y e g p q = p ∙ sym q

pub is_date_one : OneAnswer 0 is_date_kinds.ps is_date_kinds.r is_date_reads.Learnt
is_date_one κs a x y e g p q = p ∙ sym q

pub field_range_one : OneAnswer 0 field_range_kinds.ps field_range_kinds.r field_range_reads.Learnt
field_range_one κs a x y e g p q = p ∙ sym q

pub in_list_one : OneAnswer 2 in_list_kinds.ps in_list_kinds.r in_list_reads.Learnt
in_list_one κs a x y e g p q = p ∙ sym q

pub room_fault_one : OneAnswer 2 room_fault_kinds.ps room_fault_kinds.r room_fault_reads.Learnt
room_fault_one κs a x y e g p q = p ∙ sym q

pub shape_fault_one : OneAnswer 2 shape_fault_kinds.ps shape_fault_kinds.r shape_fault_reads.Learnt
shape_fault_one κs a x y e g p q = p ∙ sym q

pub list_fault_one : OneAnswer 2 list_fault_kinds.ps list_fault_kinds.r list_fault_reads.Learnt
list_fault_one κs a x y e g p q = p ∙ sym q

pub check_list_one : OneAnswer 2 check_list_kinds.ps check_list_kinds.r check_list_reads.Learnt
check_list_one κs a x y e g p q = p ∙ sym q

pub rule_fits_one : OneAnswer 2 rule_fits_kinds.ps rule_fits_kinds.r rule_fits_reads.Learnt
rule_fits_one κs a x y e g p q = p ∙ sym q

pub rule_edge_one : OneAnswer 2 rule_edge_kinds.ps rule_edge_kinds.r rule_edge_reads.Learnt
rule_edge_one κs a x y e g p q = p ∙ sym q

pub plain_scan_one : OneAnswer 2 plain_scan_kinds.ps plain_scan_kinds.r plain_scan_reads.Learnt
plain_scan_one κs a x y e g p q = p ∙ sym q

pub independence_one : OneAnswer 2 independence_kinds.ps independence_kinds.r independence_reads.Learnt
independence_one κs a x y e g p q = p ∙ sym q
