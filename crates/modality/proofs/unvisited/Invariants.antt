use mathlib.Core.Path.{◌≡◌}
use Rattle.definition.specs.Graph.{Graph}
use Rattle.definition.specs.Modality.{Necessity}
use Rattle.graph.specs.Drawn.{HasGraph}
use Rattle.bits.specs.Worlds.{InWord}
use Rattle.modality.proofs.Give.{fresh, Marks}
use Rattle.modality.proofs.unvisited.Given as goal

-- The word has a bit for each world before v that is reached and not visited; after the last world these are the unvisited ones, rising.
abbrev pub invariant-loop-v : goal.invariant-loop-v
invariant-loop-v l = (g : Graph) (n : Necessity) → n.world ≡ l.from → HasGraph g l.graph → InWord n.visited l.visited.0 → Marks (fresh g l.from n.visited) l.v l.found.0
