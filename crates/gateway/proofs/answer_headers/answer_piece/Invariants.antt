-- `gateway::answer_headers::answer_piece` meets its contract. At the loop's head the bytes before the rest are answered and
-- what they print is written (`TurnOn`); the measure is what is left.
-- Assumes nothing.
use lib.ListN.{length}
use Rattle.lists.specs.Rules.{lent}
use Rattle.gateway.proofs.Serving.{TurnOn}
use Rattle.gateway.proofs.answer_headers.answer_piece.Given as goal

abbrev pub invariant-loop-rest : goal.invariant-loop-rest
invariant-loop-rest l = TurnOn (lent l.list) l.table l.initial.present l.bytes l.initial.header (length l.initial.out) l.present l.header l.out l.rest

abbrev pub decreases-loop-rest : goal.decreases-loop-rest
decreases-loop-rest l = length l.rest
