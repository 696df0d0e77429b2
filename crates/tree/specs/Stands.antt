-- The tree as it stood before a step: the first nodes of the table, whatever nodes were made since.
use Rattle.std.specs.Prelude.{ℕ, ◌≡◌, List, ◌++◌, length}
use Rattle.definition.specs.Tree.{Node}
use Rattle.tree.specs.Lay.{Laid}
use Rattle.tree.specs.declared.ProofTree.{ProofTree}

pub record Stands (t : List Node) (base : ℕ) (x : ProofTree) : Type 0 where
  pub more : List Node
  pub count : length t ≡ base
  pub lays : Laid (t ++ more) x
