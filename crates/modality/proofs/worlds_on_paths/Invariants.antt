use Prim.Native.Nat.{ℕ, ◌≤◌, ◌<◌}
use mathlib.Core.Path.{◌≡◌}
use mathlib.Core.Bool.{false}
use mathlib.Core.List.{List}
use lib.ListN.{length, get_or, take}
use Rattle.definition.specs.Limits.{most_identifiers}
use Rattle.arrays.specs.Listed.{HasList}
use Rattle.bits.specs.Worlds.{no_world}
use Rattle.definition.specs.Lists.{Each, elem}
use Rattle.definition.specs.Tree.{Node}
use Rattle.modality.specs.Earlier.{HasEarlier}
use Rattle.modality.specs.Forking.{fork_of}
use Rattle.modality.specs.Seen.{Seen}
use Rattle.modality.proofs.worlds_on_paths.Given as goal

-- After j turns `seen` has the worlds on the path of each of the first j leaves, and the entries of all that is not listed are as they were.
abbrev pub invariant-loop-j : goal.invariant-loop-j
invariant-loop-j s = ((t : List Node) (ls : List ℕ) → HasEarlier t s.earlier → HasList ls s.on → s.on.len ≤ most_identifiers → Each (λ l. l < most_identifiers) ls → length s.initial.seen.sets ≡ most_identifiers → (length s.seen.sets ≡ most_identifiers) × Each (Seen t (fork_of s.forking) s.seen) (take s.j ls))
    × ((ls : List ℕ) → HasList ls s.on → s.on.len ≤ most_identifiers → (x : ℕ) → elem x ls ≡ false → get_or s.seen.sets x no_world ≡ get_or s.initial.seen.sets x no_world)
