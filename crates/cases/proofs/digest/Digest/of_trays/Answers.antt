use Rattle.cases.proofs.Lines.{rows_next, rows_end, worlds_end}
use Rattle.cases.proofs.digest.Digest.of_trays.Goals as goal

pub loop-u-preserved : goal.loop-u-preserved
loop-u-preserved c = rows_next _ c.min.ensures _ c.loop-u-test.true c.row-text.ensures c.loop-u.invariant

pub returns : goal.returns
returns c = worlds_end _ _ _ _ _ c.node_lines-text.ensures (rows_end _ c.min.ensures _ c.loop-u-test.false) c.loop-u.invariant
