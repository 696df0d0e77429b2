use Prim.Native.Nat.{◌<◌}
use mathlib.Core.Path.{◌≡◌}
use mathlib.Core.List.{List}
use lib.ListN.{length, take}
use Rattle.definition.specs.Lists.{Each, concat_map}
use Rattle.definition.specs.Tree.{Node}
use Rattle.definition.specs.Trays.{node_bytes}
use Rattle.tree.specs.Lay.{Laid}
use Rattle.slices.specs.Written.{Puts}
use Rattle.trays.proofs.NodeWriter.append_all.Given as goal

-- After i turns the records of the first i nodes are appended.
abbrev pub invariant-loop-i : goal.invariant-loop-i
invariant-loop-i l = (l.self.tray.ghost_name ≡ l.initial.self.tray.ghost_name) × ((ns : List Node) → length ns ≡ l.tree.len → Laid ns l.tree → Each (λ (x : Node). x.world < 256) ns → Puts (concat_map node_bytes (take l.i ns)) l.initial.self.at l.initial.self.tray.now l.self.at l.self.tray.now)
