use Rattle.graph.proofs.Forks.{init_made}
use Rattle.graph.proofs.Graph.initialize_graph_if_needed.Goals as goal

pub returns : goal.returns
returns c = λ g d. init_made _ d c.if-self-ne0.false c.add_missing_graph_vertices.ensures
