-- Any two results that the contract of a public function on slices allows for the same arguments are equal, and so are any two runs that
-- it leaves. `serve` and `main` have no contract: what is read and written is the system's. `Learnt` is what a caller learns of a call,
-- as the checker reads it off the contract's `ensures`; `ps` and `r` are its parameters' and its result's types.
-- Assumes nothing.
use Prim.Native.Nat.{ℕ}
use mathlib.Core.List.{List}
use mathlib.Core.Path.{◌≡◌, sym, ap, ◌∙◌}
use lib.ListN.{take}
use Rattle.ranges.proofs.OneAnswer.{OneAnswer, OneRun}
use Rattle.text.specs.Cells.{fed}
use Rattle.text.specs.Puts.{Put}
use Rattle.text.proofs.Determined.{place_one, bytes_one}
use Rattle.calls.specs.declared.reply.Place.{Place}
use Rattle.hearing.specs.Lines.{Heard, heard}
use Rattle.calls.specs.Replies.{served_byte, said_to, ServedLines}
use Rattle.calls.proofs.word.word_of.Kinds as word_of_kinds
use Rattle.calls.proofs.word.word_of.Reads as word_of_reads
use Rattle.calls.proofs.word.flags_fit.Kinds as flags_fit_kinds
use Rattle.calls.proofs.word.flags_fit.Reads as flags_fit_reads
use Rattle.calls.proofs.answer.answer.Kinds as answer_kinds
use Rattle.calls.proofs.answer.answer.Reads as answer_reads
use Rattle.calls.proofs.reply.serve_lines.Kinds as serve_lines_kinds
use Rattle.calls.proofs.reply.serve_lines.Reads as serve_lines_reads
use Rattle.calls.proofs.reply.put_last.Kinds as put_last_kinds
use Rattle.calls.proofs.reply.put_last.Reads as put_last_reads

-- ---- word
pub word_of_one : OneAnswer 1 word_of_kinds.ps word_of_kinds.r word_of_reads.Learnt
word_of_one κs a x y e g p q = p ∙ sym q

pub flags_fit_one : OneAnswer 0 flags_fit_kinds.ps flags_fit_kinds.r flags_fit_reads.Learnt
flags_fit_one κs a x y e g p q = p ∙ sym q

-- ---- answer: the place, the line's numbers and the bytes afterwards
pub answer_one : OneRun 4 answer_kinds.ps answer_kinds.r answer_reads.Learnt (λ κs e. e.1.1.1.0.now.at)
answer_one κs a x y e g p q = place_one p.0.puts.put q.0.puts.put

pub answer_numbers_one : OneRun 4 answer_kinds.ps answer_kinds.r answer_reads.Learnt (λ κs e. e.1.1.0.now)
answer_numbers_one κs a x y e g p q = p.1 ∙ sym q.1

pub answer_bytes_one : OneRun 4 answer_kinds.ps answer_kinds.r answer_reads.Learnt (λ κs e. e.1.1.1.0.now.bytes.now)
answer_bytes_one κs a x y e g p q = bytes_one p.0.puts.put q.0.puts.put

-- ---- reply
-- where serving has come to, the line's two runs, and the answers' bytes
module _ {s : Heard} {bytes out : List ℕ} {x y : Place} {name name' numbers numbers' after after' : List ℕ}
    (p : ServedLines s bytes out (heard x.line name numbers) x.next after x.at)
    (q : ServedLines s bytes out (heard y.line name' numbers') y.next after' y.at) where
  next_one : x.next ≡ y.next
  next_one = p.count ∙ sym q.count

  heard_one : heard x.line name numbers ≡ heard y.line name' numbers'
  heard_one = p.left ∙ ap (λ k. fed served_byte s (take k bytes)) next_one ∙ sym q.left

  said_at : Put out 0 (said_to s (take y.next bytes)) after x.at
  said_at = rw next_one at p.said

  pub serve_lines_at_one : x.at ≡ y.at
  serve_lines_at_one = place_one said_at q.said

  placed_one : x ≡ y
  placed_one =
      let line : x.line ≡ y.line = ap (λ h. h.line) heard_one in
      let at = serve_lines_at_one in
      let next = next_one in
      rw (line, next, at)

  put_one : after ≡ after'
  put_one = bytes_one said_at q.said

pub serve_lines_one : OneAnswer 4 serve_lines_kinds.ps serve_lines_kinds.r serve_lines_reads.Learnt
serve_lines_one κs a x y e g p q = placed_one p q

pub serve_lines_name_one : OneRun 4 serve_lines_kinds.ps serve_lines_kinds.r serve_lines_reads.Learnt (λ κs e. e.1.1.0.now)
serve_lines_name_one κs a x y e g p q = ap (λ h. h.name) (heard_one p q)

pub serve_lines_numbers_one : OneRun 4 serve_lines_kinds.ps serve_lines_kinds.r serve_lines_reads.Learnt (λ κs e. e.1.1.1.0.now)
serve_lines_numbers_one κs a x y e g p q = ap (λ h. h.numbers) (heard_one p q)

pub serve_lines_bytes_one : OneRun 4 serve_lines_kinds.ps serve_lines_kinds.r serve_lines_reads.Learnt (λ κs e. e.1.1.1.1.0.now)
serve_lines_bytes_one κs a x y e g p q = put_one p q

pub put_last_one : OneAnswer 3 put_last_kinds.ps put_last_kinds.r put_last_reads.Learnt
put_last_one κs a x y e g p q = place_one p.said q.said

pub put_last_numbers_one : OneRun 3 put_last_kinds.ps put_last_kinds.r put_last_reads.Learnt (λ κs e. e.1.1.0.now)
put_last_numbers_one κs a x y e g p q = p.left_is ∙ sym q.left_is

pub put_last_bytes_one : OneRun 3 put_last_kinds.ps put_last_kinds.r put_last_reads.Learnt (λ κs e. e.1.1.1.0.now)
put_last_bytes_one κs a x y e g p q = bytes_one p.said q.said
