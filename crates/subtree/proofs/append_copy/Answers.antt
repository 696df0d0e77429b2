use Rattle.subtree.proofs.Placing.{copy_placed}
use Rattle.subtree.proofs.append_copy.Goals as goal

pub returns : goal.returns
returns c = λ ns q p f w. copy_placed c.args.s _ ns q _ _ _ _ _ _ p f w c.attach_new_ids-copy.ensures c.append_subtree_on_leaf.ensures c.push_subtree.ensures
