use Rattle.branch.proofs.Begun.{queued}
use Rattle.branch.proofs.begin_queue.Goals as goal

pub returns : goal.returns
returns c = λ rs e few l p. queued rs e few c.push_tree_node.ensures l p
