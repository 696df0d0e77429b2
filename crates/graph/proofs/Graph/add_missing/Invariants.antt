use Prim.Native.Nat.{ℕ}
use mathlib.Core.Path.{◌≡◌}
use mathlib.Core.Bool.{Bool}
use Rattle.definition.specs.Graph.{Graph, edge}
use Rattle.graph.specs.Drawn.{grid, HasGraph}
use Rattle.graph.proofs.Scan.{scanned}
use Rattle.graph.proofs.Graph.add_missing.Given as goal

-- After n turns the array has the graph's edges and, of the first n pairs, those that the test finds missing.
abbrev pub invariant-loop-n : goal.invariant-loop-n
invariant-loop-n g l =
    (l.self.worlds ≡ l.initial.self.worlds)
    × ((h : Graph) (missing : ℕ → ℕ → Bool) → HasGraph h l.initial.self
    → ((stood : _) (vertex : _) (r : _) → stood.now ≡ l.initial.self → g.F.Fn.post l.is_missing (stood, (vertex, tt)) r → r ≡ missing vertex.from.0 vertex.to.0)
    → l.self.edges ≡ grid (scanned (edge h) missing l.n))
