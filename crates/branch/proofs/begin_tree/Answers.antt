use Rattle.branch.proofs.Begun.{rooted_linked}
use Rattle.branch.proofs.begin_tree.Goals as goal

pub returns : goal.returns
returns c = λ rs p few h. rooted_linked _ _ (c.branch_nodes-chain.ensures rs p few h) c.link_chain.ensures
