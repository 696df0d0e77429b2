use Prim.Native.Nat.{ℕ, ◌<◌, ◌-◌}
use mathlib.Core.Path.{◌≡◌}
use mathlib.Core.List.{List}
use Rattle.definition.specs.Tree.{Node, upward, path}
use Rattle.definition.specs.Modality.{occurs}
use Rattle.modality.specs.Earlier.{HasEarlier}
use Rattle.modality.specs.Forking.{fork_of}
use Rattle.modality.proofs.Worlds.{gathered}
use Rattle.modality.proofs.worlds_on.Given as goal

-- At every turn the worlds of the word and those that what is left of the path brings are those of the whole path.
abbrev pub invariant-loop : goal.invariant-loop
invariant-loop l = (t : List Node) → HasEarlier t l.earlier → (v : ℕ) → v < 32 → gathered t (fork_of l.forking) v l.worlds.0 (upward (l.earlier.base - l.counter) t l.cur.0) ≡ occurs t (fork_of l.forking) (path t l.initial.cur.0) v
