-- `tables::read::end_of` meets its contract: the next start stands one further.
-- Assumes nothing.
use mathlib.Core.Path.{ap, ◌∙◌}
use Prim.Native.Nat.{◌+◌}
use native.Mathlib.Omega.{arith}
use Rattle.tables.proofs.Offsets.{start_few, start_suc}
use Rattle.tables.proofs.Readers.{read_at}
use Rattle.tables.proofs.read.end_of.Goals as goal

pub overflow_add-start_at : goal.overflow_add-start_at
overflow_add-start_at c =
    let fit = c.ranges in
    omega (arith, c.start_at.ensures, start_few {room = c.args.table.now.room} (omega arith) fit.q.fits)

pub returns : goal.returns
returns c =
    let a = c.args in
    read_at a.table.now.numbers.now c.number_at.ensures (ap (λ k. k + 1) c.start_at.ensures ∙ start_suc a.table.now.room a.q)
