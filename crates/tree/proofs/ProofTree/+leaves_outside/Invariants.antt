use Rattle.tree.proofs.ProofTree.+leaves_outside.Given as goal

abbrev pub decreases-leaves_outside : goal.decreases-leaves_outside
decreases-leaves_outside g l = l.depth
