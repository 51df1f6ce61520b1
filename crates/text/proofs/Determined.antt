-- Any two results that a public function's contract allows for the same arguments are equal, and any two runs that it leaves: each
-- contract is one equation, `r ≡ ..`, and one for the run, or a record of which each field fixes a part (`Put`, `TookLine`, `TookLast`).
-- `Learnt` is what a caller learns of a call, as the checker reads it off the contract's `ensures`; `ps` and `r` are its parameters' and
-- its result's types.
-- Assumes nothing.
use Prim.Native.Nat.{ℕ}
use mathlib.Core.List.{List}
use mathlib.Core.Path.{◌≡◌, sym, ap, ◌∙◌}
use lib.ListN.{take}
use Rattle.ranges.proofs.OneAnswer.{OneAnswer, OneRun}
use Rattle.text.specs.Cells.{fed}
use Rattle.text.specs.Lines.{in_file_now, line_step, TookLine, TookLast}
use Rattle.text.specs.Puts.{Put}
use Rattle.text.specs.declared.line.Reader.{Reader}
use Rattle.text.specs.declared.line.LineRead.{LineRead}
use Rattle.text.proofs.cell.with_byte.Kinds as with_byte_kinds
use Rattle.text.proofs.cell.with_byte.Reads as with_byte_reads
use Rattle.text.proofs.line.line_start.Kinds as line_start_kinds
use Rattle.text.proofs.line.line_start.Reads as line_start_reads
use Rattle.text.proofs.line.reader_start.Kinds as reader_start_kinds
use Rattle.text.proofs.line.reader_start.Reads as reader_start_reads
use Rattle.text.proofs.line.read_line.Kinds as read_line_kinds
use Rattle.text.proofs.line.read_line.Reads as read_line_reads
use Rattle.text.proofs.line.end_line.Kinds as end_line_kinds
use Rattle.text.proofs.line.end_line.Reads as end_line_reads
use Rattle.text.proofs.put.Out.byte.Kinds as byte_kinds
use Rattle.text.proofs.put.Out.byte.Reads as byte_reads
use Rattle.text.proofs.put.Out.text.Kinds as text_kinds
use Rattle.text.proofs.put.Out.text.Reads as text_reads
use Rattle.text.proofs.put.Out.number.Kinds as number_kinds
use Rattle.text.proofs.put.Out.number.Reads as number_reads
use Rattle.text.proofs.row.row_start.Kinds as row_start_kinds
use Rattle.text.proofs.row.row_start.Reads as row_start_reads
use Rattle.text.proofs.row.row_byte.Kinds as row_byte_kinds
use Rattle.text.proofs.row.row_byte.Reads as row_byte_reads
use Rattle.text.proofs.row.row_next.Kinds as row_next_kinds
use Rattle.text.proofs.row.row_next.Reads as row_next_reads

-- ---- bytes put, which crates above cite
module _ {out : List ℕ} {at : ℕ} {bs after after' : List ℕ} {next next' : ℕ} (p : Put out at bs after next) (q : Put out at bs after' next') where
  pub place_one : next ≡ next'
  place_one = p.place ∙ sym q.place

  pub bytes_one : after ≡ after'
  bytes_one = p.bytes ∙ sym q.bytes

-- ---- a line read
-- a reader and the run are one where they are one together
reader_alike : {r s : Reader} {run run' : List ℕ} → in_file_now r run ≡ in_file_now s run' → r ≡ s
reader_alike same = ap (λ x. record { cr = x.cr; line = x.at.line }) same

run_alike : {r s : Reader} {run run' : List ℕ} → in_file_now r run ≡ in_file_now s run' → run ≡ run'
run_alike same = ap (λ x. x.at.run) same

-- and what a reader did is its three parts
read_alike : {x y : LineRead} → x.reader ≡ y.reader → x.used ≡ y.used → x.ended ≡ y.ended → x ≡ y
read_alike {x} {y} reader used ended =
    ap (λ r. record { reader = r; used = x.used; ended = x.ended }) reader
    ∙ ap (λ k. record { reader = y.reader; used = k; ended = x.ended }) used
    ∙ ap (λ t. record { reader = y.reader; used = y.used; ended = t }) ended

module _ {from : ℕ} {r : Reader} {bytes run : List ℕ} {x y : LineRead} {after after' : List ℕ} (p : TookLine from r bytes run x after)
    (q : TookLine from r bytes run y after') where
  used_one : x.used ≡ y.used
  used_one = p.used ∙ sym q.used

  line_one : in_file_now x.reader after ≡ in_file_now y.reader after'
  line_one = p.line ∙ ap (λ k. fed (line_step from) (in_file_now r run) (take k bytes)) used_one ∙ sym q.line

  took_one : x ≡ y
  took_one = read_alike (reader_alike line_one) used_one (p.ended ∙ sym q.ended)

  took_run_one : after ≡ after'
  took_run_one = run_alike line_one

module _ {from : ℕ} {r : Reader} {run : List ℕ} {x y : LineRead} {after after' : List ℕ} (p : TookLast from r run x after)
    (q : TookLast from r run y after') where
  last_line_one : in_file_now x.reader after ≡ in_file_now y.reader after'
  last_line_one = p.line ∙ sym q.line

  last_one : x ≡ y
  last_one = read_alike (reader_alike last_line_one) (p.used ∙ sym q.used) (p.ended ∙ sym q.ended)

  last_run_one : after ≡ after'
  last_run_one = run_alike last_line_one

-- ---- cell
pub with_byte_one : OneAnswer 0 with_byte_kinds.ps with_byte_kinds.r with_byte_reads.Learnt
with_byte_one κs a x y e g p q = p ∙ sym q

-- ---- line
pub line_start_one : OneAnswer 0 line_start_kinds.ps line_start_kinds.r line_start_reads.Learnt
line_start_one κs a x y e g p q = p ∙ sym q

pub reader_start_one : OneAnswer 0 reader_start_kinds.ps reader_start_kinds.r reader_start_reads.Learnt
reader_start_one κs a x y e g p q = p ∙ sym q

pub read_line_one : OneAnswer 2 read_line_kinds.ps read_line_kinds.r read_line_reads.Learnt
read_line_one κs a x y e g p q = took_one p q

-- the run of numbers afterwards is one too
pub read_line_run_one : OneRun 2 read_line_kinds.ps read_line_kinds.r read_line_reads.Learnt (λ κs e. e.1.1.1.0.now)
read_line_run_one κs a x y e g p q = took_run_one p q

pub end_line_one : OneAnswer 1 end_line_kinds.ps end_line_kinds.r end_line_reads.Learnt
end_line_one κs a x y e g p q = last_one p q

pub end_line_run_one : OneRun 1 end_line_kinds.ps end_line_kinds.r end_line_reads.Learnt (λ κs e. e.1.1.0.now)
end_line_run_one κs a x y e g p q = last_run_one p q

-- ---- put: the place, and the bytes afterwards
pub put_byte_one : OneRun 2 byte_kinds.ps byte_kinds.r byte_reads.Learnt (λ κs e. e.0.now.at)
put_byte_one κs a x y e g p q = place_one p.put q.put

pub put_byte_run_one : OneRun 2 byte_kinds.ps byte_kinds.r byte_reads.Learnt (λ κs e. e.0.now.bytes.now)
put_byte_run_one κs a x y e g p q = bytes_one p.put q.put

pub put_text_one : OneRun 3 text_kinds.ps text_kinds.r text_reads.Learnt (λ κs e. e.0.now.at)
put_text_one κs a x y e g p q = place_one p.put q.put

pub put_text_run_one : OneRun 3 text_kinds.ps text_kinds.r text_reads.Learnt (λ κs e. e.0.now.bytes.now)
put_text_run_one κs a x y e g p q = bytes_one p.put q.put

pub put_number_one : OneRun 2 number_kinds.ps number_kinds.r number_reads.Learnt (λ κs e. e.0.now.at)
put_number_one κs a x y e g p q = place_one p.put q.put

pub put_number_run_one : OneRun 2 number_kinds.ps number_kinds.r number_reads.Learnt (λ κs e. e.0.now.bytes.now)
put_number_run_one κs a x y e g p q = bytes_one p.put q.put

-- ---- row
pub row_start_one : OneAnswer 0 row_start_kinds.ps row_start_kinds.r row_start_reads.Learnt
row_start_one κs a x y e g p q = p ∙ sym q

pub row_byte_one : OneAnswer 0 row_byte_kinds.ps row_byte_kinds.r row_byte_reads.Learnt
row_byte_one κs a x y e g p q = p ∙ sym q

pub row_next_one : OneAnswer 1 row_next_kinds.ps row_next_kinds.r row_next_reads.Learnt
row_next_one κs a x y e g p q = p.0 ∙ sym q.0

-- the run of numbers afterwards is one too
pub row_next_run_one : OneRun 1 row_next_kinds.ps row_next_kinds.r row_next_reads.Learnt (λ κs e. e.1.1.0.now)
row_next_run_one κs a x y e g p q = p.1 ∙ sym q.1
