-- The stack of stored necessities in an array, and their leaves in a table of bits.
use Rattle.std.specs.Prelude.{ℕ, ◌+◌, ◌≤◌, ◌<◌, ◌≡◌, List, [], ◌++◌, length, get_or}
use Rattle.definition.specs.Limits.{most_identifiers}
use Rattle.limits.specs.Arrays.{leaf_words}
use Rattle.definition.specs.Modality.{Necessity}
use Rattle.necessities.specs.declared.Necessities.{Necessities}
use Rattle.necessities.specs.declared.StoredNecessity.{StoredNecessity}
use Rattle.necessities.specs.Stored.{blank, Row}

-- the rows are the stack's, from the bottom to the top: the necessity that stands i below the top has k below it. Leaf bits from row count on are free
pub record Stack (ns : List Necessity) (count : ℕ) (rows : List StoredNecessity) (leaves : List ℕ) : Type 0 where
  pub room : count ≤ most_identifiers
  pub counted : length ns ≡ count
  pub stored : (none : Necessity) (i k : ℕ) → i + k + 1 ≡ count → Row (get_or ns i none) k rows leaves
  pub used : (k : ℕ) → k < count → (get_or rows k blank).leaf_row < count
  pub long : length rows ≡ most_identifiers
  pub leaves_long : length leaves ≡ leaf_words

-- the struct holds the stack; row k of the struct has the necessity
abbrev pub HasStack : List Necessity → Necessities → Type 0
HasStack ns x = Stack ns x.count x.rows x.leaves.words

abbrev pub HasRow : Necessity → ℕ → Necessities → Type 0
HasRow n k x = Row n k x.rows x.leaves.words

-- a necessity that has visited no world
unfoldable pub fresh : ℕ → ℕ → ℕ → List ℕ → Necessity
fresh f w x l = record { formula = f; world = w; spawner = x; leaves = l; visited = [] }

-- the necessity with more worlds visited
unfoldable pub visits : Necessity → List ℕ → Necessity
visits n l = record { formula = n.formula; world = n.world; spawner = n.spawner; leaves = n.leaves; visited = n.visited ++ l }
