use Rattle.subtree.proofs.Subtrees.{within_fits, within_hung}
use Rattle.subtree.proofs.Placing.{on_none, on_some}
use Rattle.subtree.proofs.append_on.Goals as goal

pub returns-then-leaves-eq0 : goal.returns-then-leaves-eq0
returns-then-leaves-eq0 c = λ ns q ls p f w l g. let s = c.args.s in on_none s ns q ls l g c.if-leaves-eq0.true p (λ h. c.push_subtree.ensures q (f h) (within_fits s h p w))

pub returns : goal.returns
returns c = λ ns q ls p f w l g.
    let s = c.args.s in
    on_some s ns q ls l g _ c.if-leaves-eq0.false (c.nth.ensures.0 ls l g)
    (c.append_copies.ensures _ _ ls (c.append_subtree_on_leaf.ensures.1 ns p (λ _. w)) (λ h. c.push_subtree.ensures q (f (rw (← c.append_subtree_on_leaf.ensures.0) h)) (within_fits s (rw (← c.append_subtree_on_leaf.ensures.0) h) p w)) (within_hung s ns _ _ w) l g)
