-- `lists::independence::least_pair` meets its contract. At the loop's head no rule below i has a partner (`Search.antt`).
-- Assumes nothing.
use mathlib.Core.Bool.{false}
use Rattle.lists.specs.Rules.{lent, rules_in}
use Rattle.lists.specs.Independence.{has_partner}
use Rattle.lists.proofs.Search.{Answered}
use Rattle.lists.proofs.independence.least_pair.Given as goal

abbrev pub invariant-loop-i : goal.invariant-loop-i
invariant-loop-i l = Answered (has_partner (lent l.list)) false (rules_in (lent l.list)) l.i
