use Prim.Native.Nat.{ℕ, ◌≤◌, ◌-◌}
use mathlib.Core.Path.{◌≡◌}
use mathlib.Core.List.{List, map}
use Rattle.definition.specs.Limits.{most_identifiers}
use Rattle.arrays.specs.Listed.{HasList}
use Rattle.definition.specs.Records.{Rec}
use Rattle.definition.specs.Tree.{Node}
use Rattle.definition.specs.Setting.{Setting}
use Rattle.definition.specs.Queue as D
use Rattle.queue.proofs.Taking.{from_class, from_place}
use Rattle.queue.proofs.first_urgent.Given as goal

-- No waiting node has a class before `class`, and none before i has `class` itself; at every turn the search from there on gives what `pop` gives.
abbrev pub invariant-loop-i : goal.invariant-loop-i
invariant-loop-i l = (F : Setting) (rs : List Rec) (ns : List Node) (q : List ℕ) → HasList (map (D.get_node_priority F rs ns) q) l.classes → l.classes.len ≤ most_identifiers → from_place F rs ns q l.class l.i ≡ D.pop F rs ns q

abbrev pub invariant-classes : goal.invariant-classes
invariant-classes l = (l.class ≤ D.class_count) × ((F : Setting) (rs : List Rec) (ns : List Node) (q : List ℕ) → HasList (map (D.get_node_priority F rs ns) q) l.classes → l.classes.len ≤ most_identifiers → from_class F rs ns q l.class ≡ D.pop F rs ns q)

abbrev pub decreases-classes : goal.decreases-classes
decreases-classes l = D.class_count - l.class
