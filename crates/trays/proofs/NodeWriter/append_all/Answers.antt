use Prim.Native.Nat.{◌<◌}
use mathlib.Core.Path.{◌∙◌}
use native.Mathlib.Omega.{arith}
use lib.ListN.{length}
use Rattle.trays.proofs.Bytes.{node_put, puts_more}
use Rattle.trays.proofs.NodeWriter.append_all.Goals as goal

pub loop-i-preserved : goal.loop-i-preserved
loop-i-preserved c = (
  c.append.ensures.same_tray ∙ c.loop-i.invariant.0,
  λ ns e q h.
      let low : c.loop-i.i < length ns = omega (arith, c.loop-i-test.true) in
      puts_more ns _ low (c.loop-i.invariant.1 ns e q h) (node_put ns c.id_at.ensures (omega (arith, low, q.fits)) h low (λ b. (c.append.ensures.appends ns q b).puts)),
)
