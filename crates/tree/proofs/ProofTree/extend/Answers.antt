use Rattle.tree.proofs.Chains.{drawn_more}
use Rattle.tree.proofs.ProofTree.extend.Goals as goal

pub returns : goal.returns
returns c = (λ lo f. drawn_more _ c.new_node-id.ensures.0 f c.extended.ensures, c.new_node-id.ensures.1)
