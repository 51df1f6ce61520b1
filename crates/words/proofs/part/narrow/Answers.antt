-- The answers that the check does not find alone.
use native.Mathlib.Omega.{arith}
use Rattle.words.proofs.Narrowing.{narrow_at, narrowed_all}
use Rattle.words.proofs.part.narrow.Goals as goal

pub overflow_cast-table : goal.overflow_cast-table
overflow_cast-table c = omega (arith, narrow_at _ c.requires.narrow_numbers c.loop-i.i (omega arith))

pub returns : goal.returns
returns c = narrowed_all c.loop-i.invariant (omega arith)
