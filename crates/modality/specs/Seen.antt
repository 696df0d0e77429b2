-- The worlds that occur on a path, as the bits of a word.
use Rattle.std.specs.Prelude.{ℕ, ◌<◌, ◌≡◌, Bool, false, ◌&&◌, ◌||◌, List, eqb, get_or}
use Rattle.std.proofs.Math.Option.{Option, none, some}
use Rattle.definition.specs.Limits.{most_identifiers}
use Rattle.bits.specs.Bits.{bit_of}
use Rattle.bits.specs.Worlds.{no_world}
use Rattle.definition.specs.Tree.{Node, node_at, path}
use Rattle.definition.specs.Modality.{Fork, occurs}
use Rattle.modality.specs.declared.PathWorlds.{PathWorlds}

-- x is the forking node, and v the new world
unfoldable pub forked_at : Option Fork → ℕ → ℕ → Bool
forked_at none v x = false
forked_at (some k) v x = eqb v k.world && eqb k.node x

-- v occurs on the paths through x for the sake of x
unfoldable pub brings : List Node → Option Fork → ℕ → ℕ → Bool
brings t k v x = eqb (node_at t x).world v || forked_at k v x

-- the worlds that occur on the leaf's path stand at the leaf
pub record Seen (t : List Node) (k : Option Fork) (seen : PathWorlds) (leaf : ℕ) : Type 0 where
  pub low : leaf < most_identifiers
  pub same : (v : ℕ) → v < 32 → bit_of (get_or seen.sets leaf no_world).0 v ≡ occurs t k (path t leaf) v
