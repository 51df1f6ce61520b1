-- `gateway::headers::headers_line` meets its contract: where the line ends, it is answered and a new one begins.
-- Assumes nothing.
use borrow.Author.Tests.{not-true, not-false}
use Rattle.gateway.proofs.Printing.{took_open, took_ends}
use Rattle.gateway.proofs.headers.headers_line.Goals as goal

pub returns-then-not-read : goal.returns-then-not-read
returns-then-not-read c = took_open _ _ _ _ _ _ c.read_line-read.ensures (not-true _ c.if-not-read.true) c.requires

pub returns : goal.returns
returns c =
    took_ends _ _ _ _ _ _ c.read_line-read.ensures (not-false _ c.if-not-read.false) c.requires c.header_flaw-flaw.ensures c.put_answer.ensures c.reader_start.ensures c.counted.ensures
