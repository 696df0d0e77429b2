use Rattle.subtree.proofs.Subtrees.{attached}
use Rattle.subtree.proofs.attach_new_ids.Goals as goal

pub returns : goal.returns
returns c = λ ns p w. attached c.args.s ns _ _ _ _ _ _ _ p w c.copy_chain-left.ensures c.copy_chain-middle.ensures c.copy_chain-right.ensures
