use Rattle.tree.specs.Chain.{chain_of}
use Rattle.subtree.proofs.Chains.{pushing_start, pushing_next, pushing_end}
use Rattle.subtree.proofs.push_chain.Goals as goal

pub loop-k-init : goal.loop-k-init
loop-k-init c = λ q p b. pushing_start q (chain_of c.args.c) p

pub loop-k-preserved : goal.loop-k-preserved
loop-k-preserved c = λ q p b. pushing_next q c.args.c c.loop-k.k _ c.loop-k-test.true (c.at.ensures.0 b c.loop-k-test.true) (c.loop-k.invariant q p b) (c.push.ensures 0)

pub returns : goal.returns
returns c = λ q p b. pushing_end q c.args.c c.loop-k.k c.loop-k-test.false (c.loop-k.invariant q p b)
