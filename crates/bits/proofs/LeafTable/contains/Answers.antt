use mathlib.Core.Path.{◌∙◌}
use Rattle.bits.proofs.Laws.{bits_has}
use Rattle.bits.proofs.LeafTable.contains.Goals as goal

pub returns : goal.returns
returns c = λ p b. c.bit.ensures ∙ bits_has p _ _ b c.if-i-ge-LEAF_COUNT.false
