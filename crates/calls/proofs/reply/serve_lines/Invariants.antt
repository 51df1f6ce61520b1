-- `calls::reply::serve_lines` meets its contract. At the loop's head the first `next` bytes are served, and there is room for one more
-- answer (`Came`); the measure is what is left of the bytes.
-- Assumes nothing.
use Prim.Native.Nat.{◌-◌}
use lib.ListN.{length}
use Rattle.hearing.specs.Lines.{heard}
use Rattle.calls.proofs.Replies.{Came}
use Rattle.calls.proofs.reply.serve_lines.Given as goal

abbrev pub invariant-loop-next : goal.invariant-loop-next
invariant-loop-next l =
    Came (heard l.initial.present l.initial.name l.initial.numbers) l.bytes l.initial.answers (heard l.present l.name l.numbers) l.next l.answers

abbrev pub decreases-loop-next : goal.decreases-loop-next
decreases-loop-next l = length l.bytes - l.next
