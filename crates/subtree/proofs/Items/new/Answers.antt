use native.Mathlib.Omega.{arith}
use Rattle.subtree.proofs.Rows.{rows_none}
use Rattle.subtree.proofs.Items.new.Goals as goal

pub returns : goal.returns
returns c = rows_none (c.new.ensures (omega arith))
