-- `lists::edge::edge_at` meets its contract. At the loop's head no field below f is at an end (`Search.antt`).
-- Assumes nothing.
use mathlib.Core.Bool.{false}
use Rattle.lists.specs.Rules.{lent}
use Rattle.lists.specs.Edges.{end_at}
use Rattle.lists.proofs.Search.{Answered}
use Rattle.lists.proofs.edge.edge_at.Given as goal

abbrev pub invariant-loop-f : goal.invariant-loop-f
invariant-loop-f l = Answered (end_at (lent l.list) l.header l.i) false l.list.shape.d l.f
