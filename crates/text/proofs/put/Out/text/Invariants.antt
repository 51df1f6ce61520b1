-- `text::put::Out::text` meets its contract. At the loop's head the bytes of the text before the present one are put.
-- Assumes nothing.
use lib.ListN.{take}
use Rattle.text.specs.Puts.{Puts}
use Rattle.text.proofs.put.Out.text.Given as goal

abbrev pub invariant-loop-i : goal.invariant-loop-i
invariant-loop-i l = Puts l.initial.self (take l.i l.text) (record l.self { at = l.at })
