use Prim.Native.Nat.{◌≤◌, ◌<◌, ◌-◌, ◌^◌}
use mathlib.Core.Path.{◌≡◌}
use lib.ListN.{length, drop}
use Rattle.definition.specs.Limits.{graph_width}
use Rattle.definition.specs.Graph.{Graph}
use Rattle.definition.specs.Trays.{row_number}
use Rattle.graph.specs.Drawn.{HasGraph}
use Rattle.trays.proofs.Numbers.{row_of}
use Rattle.trays.proofs.edge_number.Given as goal

-- At every turn n is the number of the row's edges from v on; v falls to 0.
abbrev pub invariant-loop-v : goal.invariant-loop-v
invariant-loop-v l = (l.n < 2 ^ (graph_width - l.v)) × ((g : Graph) → HasGraph g l.graph → length (row_of g l.u.0) ≤ graph_width → l.n ≡ row_number (drop l.v (row_of g l.u.0)))
