-- A subtree as three chains, and what placing leaves.
use Rattle.std.specs.Prelude.{ℕ, ◌≤◌, ◌≡◌, List, ◌++◌, map, length}
use Rattle.definition.specs.Limits.{most_identifiers}
use Rattle.arrays.specs.Listed.{HasList}
use Rattle.definition.specs.Tree.{Node}
use Rattle.definition.specs.Subtree.{Subtree, Placed, flat, numbered, copied}
use Rattle.tree.specs.Lay.{HasNodes}
use Rattle.tree.specs.declared.ProofTree.{ProofTree}
use Rattle.arrays.specs.Listed.{Numbers}
use Rattle.tree.specs.Chain.{chain_of, ChainBelow}
use Rattle.subtree.specs.declared.ProofSubtree.{ProofSubtree}

unfoldable pub subtree_of : ProofSubtree → Subtree
subtree_of s = record { left = chain_of s.left; middle = chain_of s.middle; right = chain_of s.right }

-- each identifier is below m
pub record Within (s : ProofSubtree) (m : ℕ) : Type 0 where
  pub on_left : ChainBelow s.left m
  pub on_middle : ChainBelow s.middle m
  pub on_right : ChainBelow s.right m

-- its chains are those of t, each identifier below m
pub record Chained (s : ProofSubtree) (t : Subtree) (m : ℕ) : Type 0 where
  pub are : subtree_of s ≡ t
  pub within : Within s m

-- the tree holds the nodes and the copies of those of s; where all fit, the answer has the copies' identifiers, "parent first"
pub record Attached (ns : List Node) (s r : ProofSubtree) (t : ProofTree) : Type 0 where
  pub nodes : HasNodes (ns ++ map (copied ns) (flat (subtree_of s))) t
  pub chains : t.len ≤ most_identifiers → Chained r (numbered (length ns) (subtree_of s)) t.len

-- the tree holds the nodes, and, where these fit, the queue holds the waiting nodes
pub record Left (p : Placed) (t : ProofTree) (w : Numbers) : Type 0 where
  pub nodes : HasNodes p.nodes t
  pub queue : t.len ≤ most_identifiers → HasList p.waiting w
