-- `rulesfile::file::rules_line` meets its contract: where the line ends, it is judged and a new one begins.
-- Assumes nothing.
use borrow.Author.Tests.{not-true, not-false}
use Rattle.rulesfile.proofs.Steps.{took_open, took_ends}
use Rattle.rulesfile.proofs.file.rules_line.Goals as goal

pub returns-then-not-read : goal.returns-then-not-read
returns-then-not-read c =
    took_open _ _ _ c.line_at-from.ensures c.read_line-read.ensures (not-true _ c.if-not-read.true)

pub returns : goal.returns
returns c =
    took_ends _ _ _ c.line_at-from.ensures c.read_line-read.ensures (not-false _ c.if-not-read.false) c.reader_start.ensures c.judged.ensures
