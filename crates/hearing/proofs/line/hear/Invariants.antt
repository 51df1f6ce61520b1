-- `hearing::line::hear` meets its contract. At the loop's head the word's bytes are heard, and those of the rest before the present one.
-- Assumes nothing.
use mathlib.Core.Path.{◌≡◌}
use lib.ListN.{take}
use Rattle.text.specs.Cells.{fed}
use Rattle.hearing.specs.Lines.{heard, heard_byte}
use Rattle.hearing.proofs.Lines.{rest_of}
use Rattle.hearing.proofs.line.hear.Given as goal

abbrev pub invariant-loop-byte : goal.invariant-loop-byte
invariant-loop-byte l =
    heard l.present l.name l.numbers
    ≡ fed heard_byte (heard l.initial.present l.initial.name l.initial.numbers) (take l.byte-index (rest_of l.bytes l.word))
