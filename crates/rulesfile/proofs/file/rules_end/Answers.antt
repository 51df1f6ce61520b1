-- `rulesfile::file::rules_end` meets its contract: a last line that no CRLF ends is judged.
-- Assumes nothing.
use borrow.Author.Tests.{not-true, not-false}
use Rattle.rulesfile.proofs.Steps.{end_stays, end_judged}
use Rattle.rulesfile.proofs.file.rules_end.Goals as goal

pub returns-then-not-read : goal.returns-then-not-read
returns-then-not-read c =
    end_stays _ _ c.line_at-from.ensures c.end_line-read.ensures (not-true _ c.if-not-read.true)

pub returns : goal.returns
returns c =
    end_judged _ _ c.line_at-from.ensures c.end_line-read.ensures (not-false _ c.if-not-read.false) c.judged.ensures
