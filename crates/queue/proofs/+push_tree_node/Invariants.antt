use Rattle.queue.proofs.+push_tree_node.Given as goal

abbrev pub decreases-push_tree_node : goal.decreases-push_tree_node
decreases-push_tree_node l = l.depth
