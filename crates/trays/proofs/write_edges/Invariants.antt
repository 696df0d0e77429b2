use Prim.Native.Nat.{◌≤◌}
use mathlib.Core.Path.{◌≡◌}
use mathlib.Core.Bool.{Bool}
use mathlib.Core.List.{List}
use lib.ListN.{length}
use Rattle.definition.specs.Limits.{edge_tray_length}
use Rattle.definition.specs.Lists.{Each}
use Rattle.definition.specs.Graph.{Graph}
use Rattle.graph.specs.Drawn.{HasGraph}
use Rattle.trays.proofs.Numbers.{Edges}
use Rattle.trays.proofs.write_edges.Given as goal

-- After u turns the numbers of the first u rows are written, and the rest of the tray is as it was.
abbrev pub invariant-loop-u : goal.invariant-loop-u
invariant-loop-u l = (g : Graph) → HasGraph g l.graph → length g.rows ≡ g.worlds → Each (λ (row : List Bool). length row ≡ g.worlds) g.rows → edge_tray_length ≤ length l.initial.tray → Edges g l.initial.tray l.u l.tray
