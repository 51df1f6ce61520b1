-- `sorting::choose::first_free` meets its contract. At the loop's head the partitions below q have rule i's stamp (`Answered` of lists' `Search.antt`).
-- Assumes nothing.
use Prim.Native.Nat.{suc}
use mathlib.Core.Bool.{false, not}
use lib.Dec.{eqb}
use lib.ListN.{get_or}
use Rattle.lists.proofs.Search.{Answered}
use Rattle.sorting.specs.Marks.{stamp_of}
use Rattle.sorting.proofs.choose.first_free.Given as goal

abbrev pub invariant-loop-q : goal.invariant-loop-q
invariant-loop-q l = Answered (λ k. not (eqb (get_or l.stamps k 0) (stamp_of l.i))) false (suc l.i) l.q
