-- `words::choice_words::layout_from` meets its contract.
-- Assumes nothing.
use mathlib.Core.Path.{sym, ◌∙◌}
use Rattle.words.proofs.Parts.{narrow_told}
use Rattle.words.proofs.choice_words.layout_from.Goals as goal

pub layout_after-requires : goal.layout_after-requires
layout_after-requires c =
    (c.requires, narrow_told _ _ _ (sym c.narrow_end.ensures ∙ c.in-Some.is))
