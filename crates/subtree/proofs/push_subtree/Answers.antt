use Rattle.subtree.proofs.Subtrees.{pushed_turned, pushed_all}
use Rattle.subtree.proofs.push_subtree.Goals as goal

pub returns : goal.returns
returns c = λ q p w. let s = c.args.s in pushed_all s q (pushed_turned s.right _ _ c.turned-3.ensures (pushed_turned s.middle _ _ c.turned-2.ensures (pushed_turned s.left _ q c.turned.ensures p w.on_left c.push_chain.ensures) w.on_middle c.push_chain-2.ensures) w.on_right c.push_chain-3.ensures)
