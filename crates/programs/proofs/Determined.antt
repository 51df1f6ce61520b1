-- Any two results that a contract of this crate allows for the same arguments are equal. `Learnt` is what a caller learns of a call, as the checker
-- reads it off the contract's `ensures`; `ps` and `r` are its parameters' and its result's types. What the other functions answer is the
-- system's: docs/PROMISES.md lists them.
-- Assumes nothing.
use mathlib.Core.Path.{sym, ◌∙◌}
use Rattle.ranges.proofs.OneAnswer.{OneAnswer}
use Rattle.programs.proofs.bytes.same.Kinds as same_kinds
use Rattle.programs.proofs.bytes.same.Reads as same_reads
use Rattle.programs.proofs.status.ended_by.Kinds as ended_by_kinds
use Rattle.programs.proofs.status.ended_by.Reads as ended_by_reads
use Rattle.programs.proofs.status.status_digit.Kinds as status_digit_kinds
use Rattle.programs.proofs.status.status_digit.Reads as status_digit_reads
use Rattle.programs.proofs.status.process_status.Kinds as process_status_kinds
use Rattle.programs.proofs.status.process_status.Reads as process_status_reads

pub ended_by_one : OneAnswer 0 ended_by_kinds.ps ended_by_kinds.r ended_by_reads.Learnt
ended_by_one κs a x y e g p q = p ∙ sym q

pub status_digit_one : OneAnswer 0 status_digit_kinds.ps status_digit_kinds.r status_digit_reads.Learnt
status_digit_one κs a x y e g p q = p ∙ sym q

pub process_status_one : OneAnswer 0 process_status_kinds.ps process_status_kinds.r process_status_reads.Learnt
process_status_one κs a x y e g p q = p ∙ sym q

pub same_one : OneAnswer 2 same_kinds.ps same_kinds.r same_reads.Learnt
same_one κs a x y e g p q = p ∙ sym q
