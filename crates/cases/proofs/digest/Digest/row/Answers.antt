use Rattle.cases.proofs.Lines.{next, row_end}
use Rattle.cases.proofs.digest.Digest.row.Goals as goal

pub loop-v-preserved : goal.loop-v-preserved
loop-v-preserved c = next _ _ _ _ c.loop-v-test.true c.edge_line-text.ensures c.loop-v.invariant

pub returns : goal.returns
returns c = row_end _ _ _ c.loop-v-test.false c.loop-v.invariant
