use Rattle.definition.specs.Tree.{is_leaf}
use Rattle.tree.proofs.ProofTree.is_leaf.Goals as goal
use Rattle.tree.proofs.ProofTree.is_leaf.Goals.{then-is_none, else-is_none}

-- Each of the three children is read once those before it are none.
pub returns-then-is_none-2 : goal.returns-then-is_none-2
unfolding is_leaf
returns-then-is_none-2 c = λ ns z. elim c.if-is_none.branch [
  | then-is_none w ↦ rw (← c.left_of.ensures ns z, ← c.is_none.ensures, w.if-is_none.true, ← w.middle_of.ensures ns z, ← w.is_none-then-is_none.ensures, ← w.value-is, c.if-is_none-2.true, ← c.right_of.ensures ns z) c.is_none-then-is_none-2.ensures
  | else-is_none w ↦ cc
]

pub returns-else-is_none-2 : goal.returns-else-is_none-2
unfolding is_leaf
returns-else-is_none-2 c = λ ns z. elim c.if-is_none.branch [
  | then-is_none w ↦ rw (← c.left_of.ensures ns z, ← c.is_none.ensures, w.if-is_none.true, ← w.middle_of.ensures ns z, ← w.is_none-then-is_none.ensures, ← w.value-is, c.if-is_none-2.false)
  | else-is_none w ↦ rw (← c.left_of.ensures ns z, ← c.is_none.ensures, w.if-is_none.false, c.if-is_none-2.false)
]
