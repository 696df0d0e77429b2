-- What a necessity gives: nodes at the end of the tree, and rows of the table of subtrees.
use Rattle.std.specs.Prelude.{◌≤◌, List, ◌++◌}
use Rattle.definition.specs.Limits.{most_identifiers}
use Rattle.definition.specs.Tree.{Node}
use Rattle.definition.specs.Modality.{Reapplication}
use Rattle.tree.specs.Lay.{HasNodes}
use Rattle.tree.specs.declared.ProofTree.{ProofTree}
use Rattle.subtree.specs.Items.{Item, Listing}
use Rattle.subtree.specs.declared.Items.{Items}

pub record Gave (ns : List Node) (rs : List Item) (made : Reapplication) (t : ProofTree) (x : Items) : Type 0 where
  pub nodes : HasNodes (ns ++ made.nodes) t
  pub rows : t.len ≤ most_identifiers → Listing rs made.subtrees x t.len
