use Rattle.tree.proofs.Nodes.{held_none}
use Rattle.tree.proofs.ProofTree.new.Goals as goal

pub returns : goal.returns
returns c = held_none
