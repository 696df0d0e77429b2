use Rattle.tree.proofs.Nodes.{marked}
use Rattle.tree.proofs.ProofTree.is_contradictory.Goals as goal

pub returns : goal.returns
returns c = λ ns z. marked _ _ (c.contrarian_of.ensures ns z) c.is_none.ensures
