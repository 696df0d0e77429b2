use Rattle.tree.proofs.Sequence.{id_none, id_next}
use Rattle.tree.proofs.ProofTreeNodeIDSequence.current.Goals as goal

pub returns-then-is_full : goal.returns-then-is_full
returns-then-is_full c = id_none _ c.is_full.ensures c.if-is_full.true

pub returns : goal.returns
returns c = id_next _ c.is_full.ensures c.if-is_full.false
