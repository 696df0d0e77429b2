use Rattle.subtree.proofs.Subtrees.{middle_only}
use Rattle.subtree.proofs.TargetedChain.with_middle_vertical_nodes.Goals as goal

pub returns : goal.returns
returns c = middle_only _ _ _ c.with_middle.ensures.0 c.with_middle.ensures.1 c.with_middle.ensures.2
