use native.Mathlib.Omega.{arith}
use Rattle.subtree.proofs.Subtrees.{hung}
use Rattle.subtree.proofs.append_subtree_on_leaf.Goals as goal

pub returns : goal.returns
returns c = (omega arith, λ ns p w. hung c.args.s ns _ p w c.link_chain.ensures.1 c.link_chain-2.ensures.1 c.link_chain-3.ensures.1)
