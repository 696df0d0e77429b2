-- The nodes in one array of `most_identifiers` entries. An entry that has no node is blank: what `node_at` says of it.
use Rattle.std.specs.Prelude.{ℕ, ◌≤◌, ◌<◌, ◌-◌, ◌≡◌, List, ◌++◌, length, replicate, map}
use Rattle.definition.specs.Limits.{most_identifiers}
use Rattle.definition.specs.Records.{nobody}
use Rattle.definition.specs.Tree.{Node, new_node}
use Rattle.definition.specs.Tree as D
use Rattle.tree.specs.declared.Place.{Place}
use Rattle.tree.specs.declared.ProofTree.{ProofTree}
use Rattle.tree.specs.declared.ProofTreeNode.{ProofTreeNode}

-- a place of the code, in the words of the definition; as an entry stores it
abbrev pub place_of : Place → D.Place
place_of Place.Root = D.Root
place_of Place.Left = D.Left
place_of Place.Middle = D.Middle
place_of Place.Right = D.Right
place_of Place.Unplaced = D.Unplaced

abbrev pub place_code : D.Place → ℕ
place_code D.Root = 0
place_code D.Left = 1
place_code D.Middle = 2
place_code D.Right = 3
place_code D.Unplaced = nobody

abbrev pub stored : Node → ProofTreeNode
stored n =
    record {
      parent = record { 0 = n.parent };
      place = record { 0 = place_code n.place };
      world = record { 0 = n.world };
      formula = record { 0 = n.formula };
      spawner = record { 0 = n.spawner };
      contrarian = record { 0 = n.contrarian };
      left = record { 0 = n.children.left };
      middle = record { 0 = n.children.middle };
      right = record { 0 = n.children.right };
    }

abbrev pub blank : ProofTreeNode
blank = stored (new_node nobody nobody nobody)

unfoldable pub lay : List Node → List ProofTreeNode
lay ns = map stored ns ++ replicate (most_identifiers - length ns) blank

-- the table holds the nodes
pub record Lays (ns : List Node) (a : List ProofTreeNode) : Type 0 where
  pub fits : length ns ≤ most_identifiers
  pub laid : a ≡ lay ns

-- the table holds the nodes, and len is their count; a count above `most_identifiers` says that there are too many, and nothing of the table
pub data Held (ns : List Node) (len : ℕ) (a : List ProofTreeNode) : Type 0 where
  held : len ≤ most_identifiers → length ns ≡ len → a ≡ lay ns → Held ns len a
  too_many : most_identifiers < len → most_identifiers < length ns → Held ns len a

-- the struct's entries are the nodes'; its entries and its count are the nodes'
abbrev pub Laid : List Node → ProofTree → Type 0
Laid ns t = Lays ns t.nodes

abbrev pub HasNodes : List Node → ProofTree → Type 0
HasNodes ns t = Held ns t.len t.nodes
