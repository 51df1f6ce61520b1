-- `phrases::say::put_all` meets its contract. At the loop's head the numbers before the present one are put.
-- Assumes nothing.
use Prim.Native.Nat.{◌*◌}
use lib.ListN.{take}
use Rattle.phrases.specs.Said.{all_spaced}
use Rattle.phrases.specs.Few.{PutFew}
use Rattle.phrases.proofs.say.put_all.Given as goal

abbrev pub invariant-loop-n : goal.invariant-loop-n
invariant-loop-n l = PutFew (21 * l.n-index) l.initial.out (all_spaced (take l.n-index l.numbers)) l.out
