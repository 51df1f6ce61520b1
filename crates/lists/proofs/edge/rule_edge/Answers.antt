-- `lists::edge::rule_edge` meets its contract: a rule that the list does not have is at no edge, and one that it has is tested.
-- Assumes nothing.
use Rattle.lists.specs.Edges.{rule_edge}
use Rattle.lists.proofs.InList.{in_told_by, listed-rule, unlisted, if_listed}
use Rattle.lists.proofs.edge.rule_edge.Goals as goal

-- no such rule
pub returns-then-not-in_list : goal.returns-then-not-in_list
unfolding rule_edge
returns-then-not-in_list c = unlisted _ _ c.in_list.ensures _ c.if-not-in_list.true

pub edge_at-requires : goal.edge_at-requires
edge_at-requires c = listed-rule _ _ (in_told_by _ _ c.in_list.ensures c.if-not-in_list.false)

-- a rule of the list
pub returns : goal.returns
unfolding rule_edge
returns c =
    if_listed _ _ c.in_list.ensures c.if-not-in_list.false c.edge_at.ensures
