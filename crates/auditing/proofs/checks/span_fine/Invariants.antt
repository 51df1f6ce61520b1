-- `auditing::checks::span_fine` meets its contract. At the loop's head the neighbours before place p are right.
-- Assumes nothing.
use Prim.Native.Nat.{ℕ, ◌≤◌, ◌<◌}
use mathlib.Core.Bool.{true}
use mathlib.Core.Path.{◌≡◌}
use Rattle.lists.specs.Rules.{lent}
use Rattle.tables.specs.Layout.{view}
use Rattle.auditing.specs.Checks.{next_fine}
use Rattle.auditing.proofs.checks.span_fine.Given as goal

abbrev pub invariant-loop-p : goal.invariant-loop-p
invariant-loop-p l = (k : ℕ) → k < l.p → l.s ≤ k → next_fine (lent l.list) (view l.table.room l.table.d l.table.numbers.now) k ≡ true
