use native.Mathlib.Omega.{arith}
use Rattle.cases.proofs.Lines.{next, nodes_end}
use Rattle.cases.proofs.digest.node_lines.Goals as goal

pub loop-i-preserved : goal.loop-i-preserved
loop-i-preserved c = next _ _ _ _ (omega arith) c.node_line-text.ensures c.loop-i.invariant

pub returns : goal.returns
returns c = nodes_end _ _ _ _ (omega arith) c.loop-i.invariant
