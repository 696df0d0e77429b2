use native.Mathlib.Omega.{arith}
use Rattle.logic.proofs.Reapply.{stands_now}
use Rattle.logic.proofs.Necessary.{fresh_as, through_fits}
use Rattle.logic.proofs.store_necessity.Goals as goal

pub returns : goal.returns
returns c = λ s r count laid stack room.
    let t = s.nodes in
    let f = c.args.f.0 in
    let th = c.leaves_through.ensures t r (stands_now t count laid) (c.new-stored.ensures (omega arith)) in
    let tf = through_fits s _ f r laid.fits th in
    fresh_as s _ f (c.world_of.ensures t laid) (c.store.ensures s.necessities _ stack room th tf.0 tf.1)
