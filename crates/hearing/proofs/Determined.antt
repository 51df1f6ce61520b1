-- Any two results that a public function's contract allows for the same arguments are equal, and so are any two runs that it leaves.
-- `Learnt` is what a caller learns of a call, as the checker reads it off the contract's `ensures`; `ps` and `r` are its parameters' and
-- its result's types.
-- Assumes nothing.
use mathlib.Core.Path.{sym, ap, ◌∙◌}
use Rattle.ranges.proofs.OneAnswer.{OneAnswer, OneRun}
use Rattle.hearing.proofs.flags.flags_end.Kinds as flags_end_kinds
use Rattle.hearing.proofs.flags.flags_end.Reads as flags_end_reads
use Rattle.hearing.proofs.flags.dates_of.Kinds as dates_of_kinds
use Rattle.hearing.proofs.flags.dates_of.Reads as dates_of_reads
use Rattle.hearing.proofs.line.line_start.Kinds as line_start_kinds
use Rattle.hearing.proofs.line.line_start.Reads as line_start_reads
use Rattle.hearing.proofs.line.hear.Kinds as hear_kinds
use Rattle.hearing.proofs.line.hear.Reads as hear_reads
use Rattle.hearing.proofs.line.line_in.Kinds as line_in_kinds
use Rattle.hearing.proofs.line.line_in.Reads as line_in_reads

-- ---- flags
pub flags_end_one : OneAnswer 0 flags_end_kinds.ps flags_end_kinds.r flags_end_reads.Learnt
flags_end_one κs a x y e g p q = p ∙ sym q

pub dates_of_one : OneAnswer 0 dates_of_kinds.ps dates_of_kinds.r dates_of_reads.Learnt
dates_of_one κs a x y e g p q = p ∙ sym q

-- ---- line
pub line_start_one : OneAnswer 0 line_start_kinds.ps line_start_kinds.r line_start_reads.Learnt
line_start_one κs a x y e g p q = p ∙ sym q

-- the line, the run for its name and the run for its numbers
pub hear_one : OneAnswer 3 hear_kinds.ps hear_kinds.r hear_reads.Learnt
hear_one κs a x y e g p q = ap (λ s. s.line) (p ∙ sym q)

pub hear_name_one : OneRun 3 hear_kinds.ps hear_kinds.r hear_reads.Learnt (λ κs e. e.1.1.0.now)
hear_name_one κs a x y e g p q = ap (λ s. s.name) (p ∙ sym q)

pub hear_numbers_one : OneRun 3 hear_kinds.ps hear_kinds.r hear_reads.Learnt (λ κs e. e.1.1.1.0.now)
hear_numbers_one κs a x y e g p q = ap (λ s. s.numbers) (p ∙ sym q)

pub line_in_one : OneAnswer 1 line_in_kinds.ps line_in_kinds.r line_in_reads.Learnt
line_in_one κs a x y e g p q = p ∙ sym q
