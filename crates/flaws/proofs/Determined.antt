-- Any two results that a public function's contract allows for the same arguments are equal, and any two runs that it leaves. `Learnt` is what a
-- caller learns of a call, as the checker reads it off the contract's `ensures`; `ps` and `r` are its parameters' and its result's types. Each
-- contract is an equation, or a record of two (`Put`).
-- Assumes nothing.
use mathlib.Core.Path.{sym, ◌∙◌}
use Rattle.ranges.proofs.OneAnswer.{OneAnswer, OneRun}
use Rattle.text.proofs.Determined.{place_one, bytes_one}
use Rattle.flaws.proofs.flaw.flaw_number.Kinds as flaw_number_kinds
use Rattle.flaws.proofs.flaw.flaw_number.Reads as flaw_number_reads
use Rattle.flaws.proofs.say.put_plural.Kinds as put_plural_kinds
use Rattle.flaws.proofs.say.put_plural.Reads as put_plural_reads
use Rattle.flaws.proofs.say.put_cells.Kinds as put_cells_kinds
use Rattle.flaws.proofs.say.put_cells.Reads as put_cells_reads
use Rattle.flaws.proofs.say.put_not_number.Kinds as put_not_number_kinds
use Rattle.flaws.proofs.say.put_not_number.Reads as put_not_number_reads
use Rattle.flaws.proofs.say.put_feed.Kinds as put_feed_kinds
use Rattle.flaws.proofs.say.put_feed.Reads as put_feed_reads
use Rattle.flaws.proofs.say.put_flaw.Kinds as put_flaw_kinds
use Rattle.flaws.proofs.say.put_flaw.Reads as put_flaw_reads
use Rattle.flaws.proofs.say.put_named.Kinds as put_named_kinds
use Rattle.flaws.proofs.say.put_named.Reads as put_named_reads
use Rattle.flaws.proofs.say.put_complaint.Kinds as put_complaint_kinds
use Rattle.flaws.proofs.say.put_complaint.Reads as put_complaint_reads

-- ---- flaw
pub flaw_number_one : OneAnswer 0 flaw_number_kinds.ps flaw_number_kinds.r flaw_number_reads.Learnt
flaw_number_one κs a x y e g p q = p ∙ sym q

-- ---- say, and the bytes afterwards
pub put_plural_one : OneRun 3 put_plural_kinds.ps put_plural_kinds.r put_plural_reads.Learnt (λ κs e. e.1.1.0.now.at)
put_plural_one κs a x y e g p q = place_one p.put q.put

pub put_plural_run_one : OneRun 3 put_plural_kinds.ps put_plural_kinds.r put_plural_reads.Learnt (λ κs e. e.1.1.0.now.bytes.now)
put_plural_run_one κs a x y e g p q = bytes_one p.put q.put

pub put_cells_one : OneRun 2 put_cells_kinds.ps put_cells_kinds.r put_cells_reads.Learnt (λ κs e. e.1.0.now.at)
put_cells_one κs a x y e g p q = place_one p.put q.put

pub put_cells_run_one : OneRun 2 put_cells_kinds.ps put_cells_kinds.r put_cells_reads.Learnt (λ κs e. e.1.0.now.bytes.now)
put_cells_run_one κs a x y e g p q = bytes_one p.put q.put

pub put_not_number_one : OneRun 2 put_not_number_kinds.ps put_not_number_kinds.r put_not_number_reads.Learnt (λ κs e. e.1.0.now.at)
put_not_number_one κs a x y e g p q = place_one p.put q.put

pub put_not_number_run_one : OneRun 2 put_not_number_kinds.ps put_not_number_kinds.r put_not_number_reads.Learnt (λ κs e. e.1.0.now.bytes.now)
put_not_number_run_one κs a x y e g p q = bytes_one p.put q.put

pub put_feed_one : OneRun 3 put_feed_kinds.ps put_feed_kinds.r put_feed_reads.Learnt (λ κs e. e.1.0.now.at)
put_feed_one κs a x y e g p q = place_one p.put q.put

pub put_feed_run_one : OneRun 3 put_feed_kinds.ps put_feed_kinds.r put_feed_reads.Learnt (λ κs e. e.1.0.now.bytes.now)
put_feed_run_one κs a x y e g p q = bytes_one p.put q.put

pub put_flaw_one : OneRun 3 put_flaw_kinds.ps put_flaw_kinds.r put_flaw_reads.Learnt (λ κs e. e.1.1.0.now.at)
put_flaw_one κs a x y e g p q = place_one p.put q.put

pub put_flaw_run_one : OneRun 3 put_flaw_kinds.ps put_flaw_kinds.r put_flaw_reads.Learnt (λ κs e. e.1.1.0.now.bytes.now)
put_flaw_run_one κs a x y e g p q = bytes_one p.put q.put

pub put_named_one : OneRun 4 put_named_kinds.ps put_named_kinds.r put_named_reads.Learnt (λ κs e. e.1.1.0.now.at)
put_named_one κs a x y e g p q = place_one p.put q.put

pub put_named_run_one : OneRun 4 put_named_kinds.ps put_named_kinds.r put_named_reads.Learnt (λ κs e. e.1.1.0.now.bytes.now)
put_named_run_one κs a x y e g p q = bytes_one p.put q.put

pub put_complaint_one : OneAnswer 3 put_complaint_kinds.ps put_complaint_kinds.r put_complaint_reads.Learnt
put_complaint_one κs a x y e g p q = place_one p q

pub put_complaint_run_one : OneRun 3 put_complaint_kinds.ps put_complaint_kinds.r put_complaint_reads.Learnt (λ κs e. e.1.1.1.0.now)
put_complaint_run_one κs a x y e g p q = bytes_one p q
