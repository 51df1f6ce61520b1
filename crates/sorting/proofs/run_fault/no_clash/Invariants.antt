-- `sorting::run_fault::no_clash` meets its contract. At the loop's head no rule below i clashes in its partition.
-- Assumes nothing.
use mathlib.Core.Bool.{true}
use lib.ListN.{length}
use Rattle.lists.specs.Rules.{lent}
use Rattle.lists.proofs.Search.{Answered}
use Rattle.sorting.specs.FirstFit.{part_of, free}
use Rattle.sorting.proofs.run_fault.no_clash.Given as goal

abbrev pub invariant-loop-i : goal.invariant-loop-i
invariant-loop-i l = Answered (λ k. free (lent l.list) l.run k (part_of l.run k)) true (length l.run) l.i
