-- `lookup::walk::walk` meets its contract. A test leaves a part of the group without its middle, or goes on to the next field
-- (`Steps.antt`: `told_smaller`). At each way out the tests that led there give that turn of the walk (`Walks.antt`), for every k above the
-- measure.
-- Assumes nothing.
use native.Mathlib.Omega.{arith}
use Rattle.lookup.proofs.Steps.{Smaller, told_smaller}
use Rattle.lookup.proofs.Walks.{every_empty, every_arrives, every_breaks, every_on}
use Rattle.lookup.proofs.walk.+walk.Goals as goal

-- an empty group
pub returns-then-e-s : goal.returns-then-e-s
returns-then-e-s t c = every_empty _ _ _ _ _ _ _ _ _ c.if-e-s.true c.pack.ensures

-- field d
pub returns-then-list-f : goal.returns-then-list-f
returns-then-list-f t c =
    every_arrives _ _ _ _ _ _ _ _ _ c.if-e-s.false (omega (arith, c.requires.ready.fields)) _ c.arrive.ensures c.pack-then-list-f.ensures

-- a broken step
pub returns-in_default : goal.returns-in_default
returns-in_default t c =
    every_breaks _ _ _ _ _ _ _ _ _ c.if-e-s.false (omega (arith, c.requires.ready.fields)) _ c.one_step-step.ensures c.in_default.is c.pack-in_default.ensures

-- a step, and the walk on what it leaves; before what the walk asks, so that a wrong count fails here first
pub returns : goal.returns
returns t c =
    let a = c.args in
    let less : Smaller a.table.now.d a.s a.e a.f c.in-Ok.field-0.s c.in-Ok.field-0.e c.in-Ok.field-0.f =
    told_smaller _ _ _ _ a.table.now.d a.s a.e a.f _ _ _ c.if-e-s.false (omega (arith, c.requires.ready.fields)) c.one_step-step.ensures c.in-Ok.is in
    every_on _ _ _ _ _ _ _ _ _ c.if-e-s.false (omega (arith, c.requires.ready.fields)) _ _ _ _ _ c.one_step-step.ensures c.in-Ok.is less.falls c.walk.ensures

-- what the step left is smaller
pub walk-requires : goal.walk-requires
walk-requires t c =
    let a = c.args in
    let less : Smaller a.table.now.d a.s a.e a.f c.in-Ok.field-0.s c.in-Ok.field-0.e c.in-Ok.field-0.f =
    told_smaller _ _ _ _ a.table.now.d a.s a.e a.f _ _ _ c.if-e-s.false (omega (arith, c.requires.ready.fields)) c.one_step-step.ensures c.in-Ok.is in
    let going = c.requires.going in (
      omega (arith, c.decreases, less.falls),
      (
        c.requires.ready,
        record { in_table = omega (arith, going.in_table, less.ends); in_row = less.field; few_tests = omega (arith, going.few_tests, less.falls) },
      ),
    )
