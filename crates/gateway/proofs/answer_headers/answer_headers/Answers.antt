-- `gateway::answer_headers::answer_headers` meets its contract: a file that can't be opened comes from no piece; list and table stand at
-- the front of what is lent.
-- Assumes nothing.
use Rattle.gateway.proofs.Serving.{headers_none}
use Rattle.gateway.proofs.answer_headers.answer_headers.Goals as goal

pub returns-in_default : goal.returns-in_default
returns-in_default g c = headers_none _ _ _ c.headers_start.ensures c.stopped_at.result c.stopped_at.ensures
