-- Stored necessities, with a row of leaf bits each.
use Rattle.std.specs.Prelude.{ℕ, ◌+◌, ◌*◌, ◌<◌, ◌≡◌, ◌&&◌, List, ltb, length, get_or}
use Rattle.definition.specs.Limits.{most_identifiers}
use Rattle.limits.specs.Arrays.{leaf_words}
use Rattle.bits.specs.Bits.{bit_at}
use Rattle.bits.specs.Worlds.{no_world, InWord}
use Rattle.definition.specs.Lists.{elem}
use Rattle.definition.specs.Modality.{Necessity}
use Rattle.necessities.specs.declared.StoredNecessity.{StoredNecessity}

-- row k of a table of bits has the numbers of the list, which are below `most_identifiers`
pub record InRow (k : ℕ) (l : List ℕ) (leaves : List ℕ) : Type 0 where
  pub row : k < most_identifiers
  pub long : length leaves ≡ leaf_words
  pub same : (y : ℕ) → (ltb y most_identifiers && bit_at leaves (k * most_identifiers + y)) ≡ elem y l

-- stands where no necessity is stored
abbrev pub blank : StoredNecessity
blank = record { formula = record { 0 = 0 }; world = record { 0 = 0 }; spawner = record { 0 = 0 }; leaf_row = 0; visited = no_world }

-- the entry has the necessity: its numbers, the worlds that it has visited, and the row of the table of bits where its leaves stand
pub record Stores (n : Necessity) (s : StoredNecessity) (bits : List ℕ) : Type 0 where
  pub formula : s.formula.0 ≡ n.formula
  pub world : s.world.0 ≡ n.world
  pub spawner : s.spawner.0 ≡ n.spawner
  pub visited : InWord n.visited s.visited.0
  pub leaves : InRow s.leaf_row n.leaves bits

-- row k has the necessity
pub record Row (n : Necessity) (k : ℕ) (rows : List StoredNecessity) (bits : List ℕ) : Type 0 where
  pub low : k < most_identifiers
  pub is : Stores n (get_or rows k blank) bits
