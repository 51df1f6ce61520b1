-- `text::row::keep` meets its contract: a store past the end changes nothing.
-- Assumes nothing.
use mathlib.Core.Path.{sym}
use lib.Seq.{set_out}
use Rattle.text.proofs.row.keep.Goals as goal

-- past the end
pub returns-else-at-run : goal.returns-else-at-run
returns-else-at-run c = sym (set_out _ _ _ c.if-at-run.false)
