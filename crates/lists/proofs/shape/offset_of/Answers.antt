-- `lists::shape::offset_of` meets its contract.
-- Assumes nothing.
use mathlib.Core.Path.{refl}
use Rattle.lists.specs.Rules.{offset_of}
use Rattle.lists.proofs.shape.offset_of.Goals as goal

pub returns : goal.returns
unfolding offset_of
returns c = refl
