use Rattle.bits.proofs.Laws.{insert_in}
use Rattle.bits.proofs.LeafTable.insert.Goals as goal

pub returns : goal.returns
returns c = λ p b. insert_in p _ _ _ c.if-i-ge-LEAF_COUNT.false c.with_bit.ensures b
