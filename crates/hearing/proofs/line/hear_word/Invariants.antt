-- `hearing::line::hear_word` meets its contract. At the loop's head the first i bytes are heard; the measure is what is
-- left of the bytes.
-- Assumes nothing.
use Prim.Native.Nat.{◌-◌}
use lib.ListN.{length}
use Rattle.hearing.specs.Lines.{heard, HeardFirst}
use Rattle.hearing.proofs.line.hear_word.Given as goal

abbrev pub invariant-loop-i : goal.invariant-loop-i
invariant-loop-i l = HeardFirst (heard l.initial.line l.initial.name l.initial.numbers) l.bytes l.i (heard l.line l.name l.numbers)

abbrev pub decreases-loop-i : goal.decreases-loop-i
decreases-loop-i l = length l.bytes - l.i
