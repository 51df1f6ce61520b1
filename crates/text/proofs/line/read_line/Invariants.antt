-- `text::line::read_line` meets its contract. At the loop's head the first i bytes are read and have not ended the line (`Going`).
-- Assumes nothing.
use Rattle.text.proofs.Lines.{Going}
use Rattle.text.proofs.line.read_line.Given as goal

abbrev pub invariant-loop-i : goal.invariant-loop-i
invariant-loop-i l = Going l.from l.initial.present l.bytes l.initial.run l.present l.run l.i
