use native.Mathlib.Omega.{arith}
use Rattle.arrays.proofs.Tabled.{tabled_count}
use Rattle.subtree.proofs.Placing.{copies_start, copies_next, copies_end}
use Rattle.subtree.proofs.append_copies.Goals as goal

pub loop-k-init : goal.loop-k-init
loop-k-init c = λ ns q ls p f w i h. copies_start ns q _ _ p f

pub loop-k-preserved : goal.loop-k-preserved
loop-k-preserved c = λ ns q ls p f w i h. copies_next c.args.s ls c.loop-k.k _ (omega (arith, tabled_count i h)) (c.nth.ensures.0 ls i h) w (c.loop-k.invariant ns q ls p f w i h) c.append_copy.ensures

pub returns : goal.returns
returns c = λ ns q ls p f w i h. copies_end c.args.s ls c.loop-k.k (omega (arith, tabled_count i h)) (c.loop-k.invariant ns q ls p f w i h)
