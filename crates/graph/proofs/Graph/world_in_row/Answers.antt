use Rattle.graph.proofs.Scan.{looked_is}
use Rattle.graph.proofs.Graph.world_in_row.Goals as goal

pub returns : goal.returns
returns c = looked_is c.args.from.0 c.args.v _ _ c.vertex_at.ensures
