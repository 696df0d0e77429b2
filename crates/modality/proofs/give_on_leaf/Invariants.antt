use Prim.Native.Nat.{ℕ, ◌<◌}
use mathlib.Core.Path.{◌≡◌}
use mathlib.Core.Bool.{Bool}
use mathlib.Core.List.{List, ◌++◌, map}
use Rattle.bits.specs.Bits.{bit_of}
use Rattle.bits.specs.Worlds.{worlds_in}
use Rattle.definition.specs.Lists.{filter}
use Rattle.definition.specs.Tree.{Node, new_node}
use Rattle.tree.specs.Chain.{DrawnFrom}
use Rattle.tree.specs.Lay.{HasNodes}
use Rattle.modality.proofs.Give.{Making}
use Rattle.modality.proofs.give_on_leaf.Given as goal

-- The nodes made so far and those that the rest of the worlds still give are all that is to be given; each turn makes the first of the rest.
abbrev pub invariant-loop-v : goal.invariant-loop-v
invariant-loop-v l = DrawnFrom l.initial.tree.len l.given l.tree.len × ((ns : List Node) (p : ℕ → Bool) → ((v : ℕ) → v < 32 → bit_of l.fn.here.0 v ≡ p v) → HasNodes ns l.initial.tree → Making (new_node l.spawner.0 l.formula.0) (ns ++ map (new_node l.spawner.0 l.formula.0) (filter p (worlds_in l.fn.worlds.0))) (worlds_in l.v-iterator.rest.0) l.tree.len l.tree.nodes)
