use Rattle.queue.proofs.Pushing.{push_deep, push_nobody, push_kids}
use Rattle.queue.proofs.+push_tree_node.Goals as goal

-- At depth 0, and where there is no node, nothing is pushed; any other node is pushed behind what its three children push, one after the other.
pub returns-then-depth-eq0 : goal.returns-then-depth-eq0
returns-then-depth-eq0 t c = λ ns q z p. push_deep ns _ _ c.if-depth-eq0.true p

pub returns-then-is_none : goal.returns-then-is_none
returns-then-is_none t c = λ ns q z p. push_nobody ns _ _ _ c.is_none.ensures c.if-is_none.true p

pub returns : goal.returns
returns t c = λ ns q z p. push_kids ns q _ _ _ _ _ _ c.if-depth-eq0.false c.is_none.ensures c.if-is_none.false (c.left_of.ensures ns z) (c.middle_of.ensures ns z) (c.right_of.ensures ns z) (c.push.ensures 0 _ (c.push_tree_node-3.ensures ns _ z (c.push_tree_node-2.ensures ns _ z (c.push_tree_node.ensures ns q z p))))
