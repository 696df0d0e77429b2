use Rattle.tree.proofs.Sequence.{count_full, count_more}
use Rattle.tree.proofs.ProofTreeNodeIDSequence.advanced.Goals as goal

pub returns-then-is_full : goal.returns-then-is_full
returns-then-is_full c = count_full _ c.is_full.ensures c.if-is_full.true

pub returns : goal.returns
returns c = count_more _ c.is_full.ensures c.if-is_full.false
