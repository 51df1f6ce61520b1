-- `gateway::headers::headers_end` meets its contract: a last line that no CRLF ends is answered.
-- Assumes nothing.
use borrow.Author.Tests.{not-true, not-false}
use Rattle.gateway.proofs.Printing.{end_stays, end_answered}
use Rattle.gateway.proofs.headers.headers_end.Goals as goal

pub returns-then-not-read : goal.returns-then-not-read
returns-then-not-read c = end_stays _ _ _ _ _ c.end_line-read.ensures c.requires (not-true _ c.if-not-read.true)

pub returns : goal.returns
returns c = end_answered _ _ _ _ _ c.end_line-read.ensures c.requires (not-false _ c.if-not-read.false) c.header_flaw-flaw.ensures c.put_answer.ensures c.counted.ensures
