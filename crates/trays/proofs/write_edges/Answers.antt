use Rattle.trays.proofs.Bytes.{not_kept}
use Rattle.trays.proofs.Numbers.{row_fits, edges_start, edges_next, edges_end}
use Rattle.trays.proofs.write_edges.Goals as goal

pub loop-u-init : goal.loop-u-init
loop-u-init c = λ g d s h r. edges_start g d s _ r

pub loop-u-preserved : goal.loop-u-preserved
loop-u-preserved c = λ g d s h r. edges_next g d s _ r _ (c.loop-u.invariant g d s h r) c.loop-u-test.true (c.edge_number.ensures g d s (row_fits g d s h _))

pub returns : goal.returns
returns c = (λ g d s h r. edges_end g d s _ r _ (c.loop-u.invariant g d s h r) c.loop-u-test.false, not_kept c.if-tray-lt-EDGE_TRAY_LENGTH.false c.if-graph-gt-GRAPH_WIDTH.false)
