use borrow.Author.Tests.{le-leb, lt-leb}
use mathlib.Core.Path.{refl}
use native.Mathlib.Omega.{arith}
use Rattle.graph.proofs.Forks.{fork_made}
use Rattle.graph.proofs.Graph.fork_world.Goals as goal
use Rattle.graph.proofs.Graph.fork_world.Goals.{then-u-forked, else-u-forked}

pub returns : goal.returns
returns c = (
  λ g k d. fork_made _ d _ c.forked_world-forked.ensures k
      (λ e q. elim c.if-u-forked.branch [ then-u-forked w ↦ rw (w.self-is, le-leb _ _ w.if-u-forked.true) (w.add_vertex.ensures.0 e q) | else-u-forked w ↦ rw (w.self-is, lt-leb _ _ w.if-u-forked.false) q ])
      (elim c.if-u-forked.branch [ then-u-forked w ↦ rw w.self-is w.add_vertex.ensures.1 | else-u-forked w ↦ rw w.self-is refl ]) c.add_missing_graph_vertices.ensures,
  λ h. absurd (omega arith),
)
