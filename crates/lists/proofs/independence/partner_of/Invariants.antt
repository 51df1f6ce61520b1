-- `lists::independence::partner_of` meets its contract. At the loop's head no rule after i and below j meets rule i (`Meeting.antt`).
-- Assumes nothing.
use Rattle.lists.specs.Rules.{lent}
use Rattle.lists.proofs.Meeting.{Sought}
use Rattle.lists.proofs.independence.partner_of.Given as goal

abbrev pub invariant-loop-j : goal.invariant-loop-j
invariant-loop-j l = Sought (lent l.list) l.i l.j
