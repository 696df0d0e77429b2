use native.Mathlib.Omega.{arith}
use Rattle.cases.proofs.Hex.{decoded_all}
use Rattle.cases.proofs.bytes.decode.Goals as goal

pub returns : goal.returns
returns c = decoded_all _ _ _ c.loop-n.invariant c.min.ensures c.saturating_sub-digits.ensures c.div_ceil.ensures c.min-count.ensures (omega arith)
