-- `gateway::headers::headers_piece` meets its contract. At the loop's head the first i bytes are read and what they print stands before
-- `place`, after which there is room for a line (`Going`); the measure is what is left.
-- Assumes nothing.
use Prim.Native.Nat.{◌-◌}
use lib.ListN.{length}
use Rattle.lists.specs.Rules.{lent}
use Rattle.gateway.proofs.Printing.{Going}
use Rattle.gateway.proofs.headers.headers_piece.Given as goal

abbrev pub invariant-loop-i : goal.invariant-loop-i
invariant-loop-i l = Going (lent l.list) l.table l.initial.present l.bytes l.initial.header l.initial.out l.present l.header l.out l.i

abbrev pub decreases-loop-i : goal.decreases-loop-i
decreases-loop-i l = length l.bytes - l.i
