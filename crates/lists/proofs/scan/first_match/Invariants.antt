-- `lists::scan::first_match` meets its contract. At the loop's head no rule below i fits (`Search.antt`).
-- Assumes nothing.
use mathlib.Core.Bool.{false}
use Rattle.lists.specs.Rules.{lent, rules_in}
use Rattle.lists.specs.FirstMatch.{fits}
use Rattle.lists.proofs.Search.{Answered}
use Rattle.lists.proofs.scan.first_match.Given as goal

abbrev pub invariant-loop-i : goal.invariant-loop-i
invariant-loop-i l = Answered (fits (lent l.list) l.header) false (rules_in (lent l.list)) l.i
