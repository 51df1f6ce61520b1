-- The answers that the check does not find alone.
use borrow.Author.Rules.{rules}
use Rattle.gateway.proofs.Serving.{turn_more, turn_some}
use Rattle.gateway.proofs.answer_headers.answer_piece.Goals as goal

pub returns-then-not-write_out : goal.returns-then-not-write_out
returns-then-not-write_out c = turn_some _ _ _ _ _ c.loop-rest.invariant c.headers_piece-next.ensures

pub loop-rest-preserved : goal.loop-rest-preserved
loop-rest-preserved c = turn_more _ _ _ _ _ c.loop-rest.invariant c.headers_piece-next.ensures (search rules)
