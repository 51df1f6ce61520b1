-- `sorting::count_parts::parts_in` meets its contract. At the loop's head b is how many partitions the first numbers, below the index of q, open.
-- Assumes nothing.
use mathlib.Core.Path.{◌≡◌}
use Rattle.sorting.specs.FirstFit.{parts}
use Rattle.sorting.proofs.count_parts.parts_in.Given as goal

abbrev pub invariant-loop-q : goal.invariant-loop-q
invariant-loop-q l = l.b ≡ parts l.run l.q-index
