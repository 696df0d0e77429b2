use native.Mathlib.Omega.{arith}
use Rattle.bits.proofs.Laws.{row_cleared}
use Rattle.bits.proofs.LeafTable.clear_row.Goals as goal

pub returns : goal.returns
returns c = λ p b. row_cleared c.args.row c.if-row-ge-MOST_IDENTIFIERS.false b (omega arith) (c.fill.ensures.after (λ y e. e))
