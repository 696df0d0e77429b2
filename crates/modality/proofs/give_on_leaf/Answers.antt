use Rattle.tree.proofs.Chains.{drawn_none}
use Rattle.modality.proofs.Give.{worlds_both, make_start, make_next}
use Rattle.modality.proofs.give_on_leaf.Goals as goal

pub loop-v-init : goal.loop-v-init
loop-v-init c = (drawn_none _, λ ns p has h. make_start _ ns (rw (c.into_iter-v-iterator.ensures.into_iter_gives, c.iter-v-items.ensures) (worlds_both p _ _ _ c.intersection.ensures has)) h)

pub loop-v-preserved : goal.loop-v-preserved
loop-v-preserved c = (c.extend-given.ensures.0 _ c.loop-v.invariant.0, λ ns p has h. make_next (c.loop-v.invariant.1 ns p has h) c.in-Some.ensures.steps c.extend-given.ensures.1)
