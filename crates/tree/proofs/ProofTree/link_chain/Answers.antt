use mathlib.Core.Path.{refl}
use native.Mathlib.Omega.{arith}
use Rattle.tree.specs.Chain.{chain_of}
use Rattle.tree.proofs.Chains.{linking_next, linking_end, below_fits, chain_full}
use Rattle.tree.proofs.ProofTree.link_chain.Goals as goal

pub returns-then-self-gt-MOST_IDENTIFIERS : goal.returns-then-self-gt-MOST_IDENTIFIERS
returns-then-self-gt-MOST_IDENTIFIERS c = (refl, λ ns has b. let a = c.args in chain_full a.y.0 _ (chain_of a.c) c.if-self-gt-MOST_IDENTIFIERS.true has)

pub loop-k-preserved : goal.loop-k-preserved
loop-k-preserved c = (omega arith, λ ns has b. let a = c.args in linking_next a.c _ (c.loop-k.invariant.1 ns has b) _ c.loop-k-test.true (c.at-x.ensures.0 (below_fits a.c c.if-self-gt-MOST_IDENTIFIERS.false has b) c.loop-k-test.true) c.link.ensures.1)

pub returns : goal.returns
returns c = (c.loop-k.invariant.0, λ ns has b. linking_end c.args.c _ (c.loop-k.invariant.1 ns has b) c.loop-k-test.false)
