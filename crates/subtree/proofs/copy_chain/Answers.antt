use Rattle.tree.specs.Chain.{chain_of}
use Rattle.tree.proofs.Chains.{drawn_none}
use Rattle.subtree.proofs.Chains.{copying_start, copying_next, copying_end}
use Rattle.subtree.proofs.copy_chain.Goals as goal

pub loop-k-init : goal.loop-k-init
loop-k-init c = (drawn_none _, λ ns p b. copying_start ns (chain_of c.args.c) p)

pub loop-k-preserved : goal.loop-k-preserved
loop-k-preserved c = (c.extend-copies.ensures.0 _ c.loop-k.invariant.0, λ ns p b. copying_next ns c.args.c c.loop-k.k _ _ _ _ c.loop-k-test.true b (c.loop-k.invariant.1 ns p b) c.at-x.ensures.0 c.spawner_of-s.ensures c.formula_of-f.ensures c.world_of-w.ensures c.extend-copies.ensures.1)

pub returns : goal.returns
returns c = (c.loop-k.invariant.0, λ ns p b. copying_end ns c.args.c c.loop-k.k c.loop-k-test.false (c.loop-k.invariant.1 ns p b))
