use mathlib.Core.Path.{refl}
use Rattle.tree.proofs.Paths.{walk_none, walk_shut, walk_end, walk_leaf, walk_deep}
use Rattle.tree.proofs.ProofTree.+leaves_outside.Goals as goal
use Rattle.tree.proofs.ProofTree.+leaves_outside.Goals.{then-is_none-via-then-is_none, then-is_none-via-else-is_none+then-is_left_out, then-depth-eq0-via-then-depth-eq0, then-depth-eq0-via-else-depth-eq0+then-is_leaf}

-- What is no node, or is left out, lists nothing; a leaf lists itself, any other node what its three children list, one after the other.
pub returns-then-is_none : goal.returns-then-is_none
returns-then-is_none g t c = λ ns l p z out q. elim c.then-is_none.branch [
  | then-is_none-via-then-is_none w ↦ walk_none ns p _ _ l c.is_none.ensures w.if-is_none.true q
  | then-is_none-via-else-is_none+then-is_left_out w ↦ walk_shut ns p _ _ l c.is_none.ensures w.if-is_none.false (out _ _ _ refl w.is_left_out.ensures) w.if-is_left_out.true q
]

pub returns-then-depth-eq0 : goal.returns-then-depth-eq0
returns-then-depth-eq0 g t c = λ ns l p z out q. elim c.then-depth-eq0.branch [
  | then-depth-eq0-via-then-depth-eq0 w ↦ walk_end ns p _ _ l c.is_none.ensures c.if-is_none.false (out _ _ _ refl c.is_left_out.ensures) c.if-is_left_out.false w.if-depth-eq0.true (c.push.ensures 0 l q)
  | then-depth-eq0-via-else-depth-eq0+then-is_leaf w ↦ walk_leaf ns p _ _ l c.is_none.ensures c.if-is_none.false (out _ _ _ refl c.is_left_out.ensures) c.if-is_left_out.false (w.is_leaf.ensures ns z) w.if-is_leaf.true (c.push.ensures 0 l q)
]

pub returns : goal.returns
returns g t c = λ ns l p z out q. walk_deep ns p _ _ l c.is_none.ensures c.if-is_none.false (out _ _ _ refl c.is_left_out.ensures) c.if-is_left_out.false (c.is_leaf.ensures ns z) _ _ _ (c.left_of.ensures ns z) (c.middle_of.ensures ns z) (c.right_of.ensures ns z) c.if-depth-eq0.false c.if-is_leaf.false (c.leaves_outside-3.ensures ns _ p z out (c.leaves_outside-2.ensures ns _ p z out (c.leaves_outside.ensures ns l p z out q)))
