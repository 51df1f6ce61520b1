-- `sorting::choose::mark_of` meets its contract: at each way out the tests that led there give the law of that stamp.
-- Assumes nothing.
use mathlib.Core.Path.{sym, ◌∙◌}
use Rattle.sorting.proofs.Partitions.Compared.{clash_told}
use Rattle.sorting.proofs.Partitions.Stamps.{mark_clash, mark_keep}
use Rattle.sorting.proofs.choose.mark_of.Goals as goal

-- a clash
pub returns-then-rules_clash : goal.returns-then-rules_clash
returns-then-rules_clash c =
    mark_clash _ _ _ _ c.if-old-i.false (sym (clash_told c.requires c.rules_clash.ensures) ∙ c.if-rules_clash.true)

-- no clash
pub returns : goal.returns
returns c =
    mark_keep _ _ _ _ c.if-old-i.false (sym (clash_told c.requires c.rules_clash.ensures) ∙ c.if-rules_clash.false)
