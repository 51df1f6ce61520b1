-- Any two results that a public function's contract allows for the same arguments are equal, and any two runs or tables that it leaves: each
-- contract is one equation, `r ≡ ..`, and one for what is lent to be written. `Learnt` is what a caller learns of a call, as the checker reads it off the
-- contract's `ensures`; `ps` and `r` are its parameters' and its result's types.
-- Assumes nothing.
use mathlib.Core.Path.{sym, ◌∙◌}
use Rattle.ranges.proofs.OneAnswer.{OneAnswer, OneRun}
use Rattle.sorting.proofs.build.build_fault.Kinds as build_fault_kinds
use Rattle.sorting.proofs.build.build_fault.Reads as build_fault_reads
use Rattle.sorting.proofs.build.build.Kinds as build_kinds
use Rattle.sorting.proofs.build.build.Reads as build_reads
use Rattle.sorting.proofs.choose.choose.Kinds as choose_kinds
use Rattle.sorting.proofs.choose.choose.Reads as choose_reads
use Rattle.sorting.proofs.lay_out.lay_out.Kinds as lay_out_kinds
use Rattle.sorting.proofs.lay_out.lay_out.Reads as lay_out_reads

pub build_fault_one : OneAnswer 3 build_fault_kinds.ps build_fault_kinds.r build_fault_reads.Learnt
build_fault_one κs a x y e g p q = p ∙ sym q

pub build_one : OneAnswer 3 build_kinds.ps build_kinds.r build_reads.Learnt
build_one κs a x y e g p q = p.answers ∙ sym q.answers

-- the table afterwards is one too
pub build_table_one : OneRun 3 build_kinds.ps build_kinds.r build_reads.Learnt (λ κs e. e.1.0.now)
build_table_one κs a x y e g p q = p.leaves ∙ sym q.leaves

-- ---- a choice, and the run afterwards
pub choose_one : OneAnswer 3 choose_kinds.ps choose_kinds.r choose_reads.Learnt
choose_one κs a x y e g p q = p.answers ∙ sym q.answers

pub choose_run_one : OneRun 3 choose_kinds.ps choose_kinds.r choose_reads.Learnt (λ κs e. e.1.0.now)
choose_run_one κs a x y e g p q = p.leaves ∙ sym q.leaves

-- ---- a laying out, and the table afterwards
pub lay_out_one : OneAnswer 4 lay_out_kinds.ps lay_out_kinds.r lay_out_reads.Learnt
lay_out_one κs a x y e g p q = p.answers ∙ sym q.answers

pub lay_out_table_one : OneRun 4 lay_out_kinds.ps lay_out_kinds.r lay_out_reads.Learnt (λ κs e. e.1.1.0.now)
lay_out_table_one κs a x y e g p q = p.leaves ∙ sym q.leaves
