-- `lookup::lookup::visit_all` meets its contract. At the loop's head the partitions before q had their turn, and what is left decides
-- the answer (`Turns.antt`: `Visited`), where n stands for no candidate. The total stays small: at most 18 tests a partition.
-- Assumes nothing.
use Rattle.lists.specs.Rules.{lent}
use Rattle.tables.specs.Layout.{seen}
use Rattle.lookup.proofs.Turns.{Visited}
use Rattle.lookup.proofs.lookup.visit_all.Given as goal

abbrev pub invariant-loop-q : goal.invariant-loop-q
invariant-loop-q l = Visited (lent l.list) (seen l.table) l.header l.table.room l.b l.q l.best l.total
