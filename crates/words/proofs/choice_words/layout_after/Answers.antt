-- The answers that the check does not find alone: the table begins before its end, by what that tells.
use mathlib.Core.Path.{sym}
use native.Mathlib.Omega.{arith}
use Rattle.words.proofs.Parts.{last_told}
use Rattle.words.proofs.choice_words.layout_after.Goals as goal

pub slice_bounds-put_layout-count-2 : goal.slice_bounds-put_layout-count-2
slice_bounds-put_layout-count-2 c = omega (arith, last_told _ _ _ (sym c.in-Some.ensures))

pub slice_bounds-put_layout-start-2 : goal.slice_bounds-put_layout-start-2
slice_bounds-put_layout-start-2 c = omega (arith, last_told _ _ _ (sym c.in-Some.ensures))
