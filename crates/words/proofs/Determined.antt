-- Any two results that a public function's contract allows for the same arguments are equal, and so are any two places and runs of bytes that
-- it leaves: a contract is one equation, `r ≡ ..`, or says which bytes are put, from which place on (`PutFew`). `Learnt` is what a caller
-- learns of a call, as the checker reads it off the contract's `ensures`; `ps` and `r` are its parameters' and its result's types.
-- Assumes nothing.
use mathlib.Core.Path.{sym, ◌∙◌}
use Rattle.ranges.proofs.OneAnswer.{OneAnswer, OneRun}
use Rattle.text.proofs.Determined.{place_one, bytes_one}
use Rattle.words.proofs.part.run_end.Kinds as run_end_kinds
use Rattle.words.proofs.part.run_end.Reads as run_end_reads
use Rattle.words.proofs.part.exact.Kinds as exact_kinds
use Rattle.words.proofs.part.exact.Reads as exact_reads
use Rattle.words.proofs.part.list_end.Kinds as list_end_kinds
use Rattle.words.proofs.part.list_end.Reads as list_end_reads
use Rattle.words.proofs.part.narrow_end.Kinds as narrow_end_kinds
use Rattle.words.proofs.part.narrow_end.Reads as narrow_end_reads
use Rattle.words.proofs.part.table_ends.Kinds as table_ends_kinds
use Rattle.words.proofs.part.table_ends.Reads as table_ends_reads
use Rattle.words.proofs.list_words.call_check.Kinds as call_check_kinds
use Rattle.words.proofs.list_words.call_check.Reads as call_check_reads
use Rattle.words.proofs.list_words.call_scan.Kinds as call_scan_kinds
use Rattle.words.proofs.list_words.call_scan.Reads as call_scan_reads
use Rattle.words.proofs.list_words.call_independent.Kinds as call_independent_kinds
use Rattle.words.proofs.list_words.call_independent.Reads as call_independent_reads
use Rattle.words.proofs.choice_words.call_choice.Kinds as call_choice_kinds
use Rattle.words.proofs.choice_words.call_choice.Reads as call_choice_reads
use Rattle.words.proofs.table_words.call_table.Kinds as call_table_kinds
use Rattle.words.proofs.table_words.call_table.Reads as call_table_reads
use Rattle.words.proofs.prefix_words.call_side.Kinds as call_side_kinds
use Rattle.words.proofs.prefix_words.call_side.Reads as call_side_reads
use Rattle.words.proofs.prefix_words.call_p2r.Kinds as call_p2r_kinds
use Rattle.words.proofs.prefix_words.call_p2r.Reads as call_p2r_reads
use Rattle.words.proofs.prefix_words.call_r2p.Kinds as call_r2p_kinds
use Rattle.words.proofs.prefix_words.call_r2p.Reads as call_r2p_reads

-- ---- part
pub run_end_one : OneAnswer 1 run_end_kinds.ps run_end_kinds.r run_end_reads.Learnt
run_end_one κs a x y e g p q = p ∙ sym q

pub exact_one : OneAnswer 1 exact_kinds.ps exact_kinds.r exact_reads.Learnt
exact_one κs a x y e g p q = p ∙ sym q

pub list_end_one : OneAnswer 1 list_end_kinds.ps list_end_kinds.r list_end_reads.Learnt
list_end_one κs a x y e g p q = p ∙ sym q

pub narrow_end_one : OneAnswer 1 narrow_end_kinds.ps narrow_end_kinds.r narrow_end_reads.Learnt
narrow_end_one κs a x y e g p q = p ∙ sym q

pub table_ends_one : OneAnswer 1 table_ends_kinds.ps table_ends_kinds.r table_ends_reads.Learnt
table_ends_one κs a x y e g p q = p ∙ sym q

-- ---- list_words
pub call_check_one : OneRun 3 call_check_kinds.ps call_check_kinds.r call_check_reads.Learnt (λ κs e. e.1.1.0.now.at)
call_check_one κs a x y e g p q = place_one p.puts.put q.puts.put

pub call_check_bytes_one : OneRun 3 call_check_kinds.ps call_check_kinds.r call_check_reads.Learnt (λ κs e. e.1.1.0.now.bytes.now)
call_check_bytes_one κs a x y e g p q = bytes_one p.puts.put q.puts.put

pub call_scan_one : OneRun 3 call_scan_kinds.ps call_scan_kinds.r call_scan_reads.Learnt (λ κs e. e.1.1.0.now.at)
call_scan_one κs a x y e g p q = place_one p.puts.put q.puts.put

pub call_scan_bytes_one : OneRun 3 call_scan_kinds.ps call_scan_kinds.r call_scan_reads.Learnt (λ κs e. e.1.1.0.now.bytes.now)
call_scan_bytes_one κs a x y e g p q = bytes_one p.puts.put q.puts.put

pub call_independent_one : OneRun 3 call_independent_kinds.ps call_independent_kinds.r call_independent_reads.Learnt (λ κs e. e.1.1.0.now.at)
call_independent_one κs a x y e g p q = place_one p.puts.put q.puts.put

pub call_independent_bytes_one : OneRun 3 call_independent_kinds.ps call_independent_kinds.r call_independent_reads.Learnt (λ κs e. e.1.1.0.now.bytes.now)
call_independent_bytes_one κs a x y e g p q = bytes_one p.puts.put q.puts.put

-- ---- choice_words
pub call_choice_one : OneRun 3 call_choice_kinds.ps call_choice_kinds.r call_choice_reads.Learnt (λ κs e. e.1.1.1.0.now.at)
call_choice_one κs a x y e g p q = place_one p.puts.put q.puts.put

pub call_choice_bytes_one : OneRun 3 call_choice_kinds.ps call_choice_kinds.r call_choice_reads.Learnt (λ κs e. e.1.1.1.0.now.bytes.now)
call_choice_bytes_one κs a x y e g p q = bytes_one p.puts.put q.puts.put

-- ---- table_words
pub call_table_one : OneRun 3 call_table_kinds.ps call_table_kinds.r call_table_reads.Learnt (λ κs e. e.1.1.1.0.now.at)
call_table_one κs a x y e g p q = place_one p.puts.put q.puts.put

pub call_table_bytes_one : OneRun 3 call_table_kinds.ps call_table_kinds.r call_table_reads.Learnt (λ κs e. e.1.1.1.0.now.bytes.now)
call_table_bytes_one κs a x y e g p q = bytes_one p.puts.put q.puts.put

-- ---- prefix_words
pub call_side_one : OneRun 3 call_side_kinds.ps call_side_kinds.r call_side_reads.Learnt (λ κs e. e.1.1.0.now.at)
call_side_one κs a x y e g p q = place_one p.puts.put q.puts.put

pub call_side_bytes_one : OneRun 3 call_side_kinds.ps call_side_kinds.r call_side_reads.Learnt (λ κs e. e.1.1.0.now.bytes.now)
call_side_bytes_one κs a x y e g p q = bytes_one p.puts.put q.puts.put

pub call_p2r_one : OneRun 3 call_p2r_kinds.ps call_p2r_kinds.r call_p2r_reads.Learnt (λ κs e. e.1.0.now.at)
call_p2r_one κs a x y e g p q = place_one p.puts.put q.puts.put

pub call_p2r_bytes_one : OneRun 3 call_p2r_kinds.ps call_p2r_kinds.r call_p2r_reads.Learnt (λ κs e. e.1.0.now.bytes.now)
call_p2r_bytes_one κs a x y e g p q = bytes_one p.puts.put q.puts.put

pub call_r2p_one : OneRun 3 call_r2p_kinds.ps call_r2p_kinds.r call_r2p_reads.Learnt (λ κs e. e.1.0.now.at)
call_r2p_one κs a x y e g p q = place_one p.0.puts.put q.0.puts.put

pub call_r2p_bytes_one : OneRun 3 call_r2p_kinds.ps call_r2p_kinds.r call_r2p_reads.Learnt (λ κs e. e.1.0.now.bytes.now)
call_r2p_bytes_one κs a x y e g p q = bytes_one p.0.puts.put q.0.puts.put

-- the line's numbers afterwards are one too
pub call_r2p_numbers_one : OneRun 3 call_r2p_kinds.ps call_r2p_kinds.r call_r2p_reads.Learnt (λ κs e. e.0.now)
call_r2p_numbers_one κs a x y e g p q = p.1 ∙ sym q.1
