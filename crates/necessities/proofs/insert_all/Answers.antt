use native.Mathlib.Omega.{arith}
use Prim.Native.Nat.{◌<◌}
use Rattle.necessities.proofs.Tables.{insert_next}
use Rattle.necessities.proofs.insert_all.Goals as goal

pub loop-i-preserved : goal.loop-i-preserved
loop-i-preserved c = λ l p h e.
    let more : c.loop-i.i < c.args.list.now.len = omega arith in
    insert_next _ _ _ _ c.if-k-ge-MOST_IDENTIFIERS.false more p h e (c.nth-x.ensures.0 l p h) c.insert.ensures (c.loop-i.invariant l p h e)
