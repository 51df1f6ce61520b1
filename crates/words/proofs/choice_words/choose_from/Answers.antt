-- The answers that the check does not find alone: the run begins before its end, by what that tells.
use mathlib.Core.Path.{sym}
use native.Mathlib.Omega.{arith}
use Rattle.words.proofs.Parts.{last_told}
use Rattle.words.proofs.choice_words.choose_from.Goals as goal

pub slice_bounds-put_choice-count : goal.slice_bounds-put_choice-count
slice_bounds-put_choice-count c = omega (arith, last_told _ _ _ (sym c.in-Some.ensures))

pub slice_bounds-put_choice-start : goal.slice_bounds-put_choice-start
slice_bounds-put_choice-start c = omega (arith, last_told _ _ _ (sym c.in-Some.ensures))
