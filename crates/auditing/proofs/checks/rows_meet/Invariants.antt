-- `auditing::checks::rows_meet` meets its contract. At the loop's head each field below f of the two places is right.
-- Assumes nothing.
use mathlib.Core.Bool.{true}
use Rattle.lists.proofs.Search.{Answered}
use Rattle.tables.specs.Layout.{view}
use Rattle.auditing.specs.Checks.{meets}
use Rattle.auditing.proofs.checks.rows_meet.Given as goal

abbrev pub invariant-loop-f : goal.invariant-loop-f
invariant-loop-f l = Answered (meets (view l.table.room l.table.d l.table.numbers.now) l.a l.p) true l.table.d l.f
