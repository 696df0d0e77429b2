-- The nodes of a rule at its formula's own world.
use Rattle.std.specs.Prelude.{ℕ, ◌≤◌, ◌≡◌, List, [], ◌++◌, map, length}
use Rattle.definition.specs.Limits.{most_identifiers}
use Rattle.definition.specs.Rules.{Rule, nothing, down, split, as_possible, as_necessary}
use Rattle.definition.specs.Tree.{Node, new_node}
use Rattle.definition.specs.Subtree.{Subtree, with_middle, with_left_right, flat, turned, numbered}
use Rattle.tree.specs.Chain.{falling_chain, empty_chain}
use Rattle.tree.specs.Lay.{HasNodes}
use Rattle.tree.specs.declared.ProofTree.{ProofTree}
use Rattle.subtree.specs.declared.ProofSubtree.{ProofSubtree}
use Rattle.subtree.specs.Subtree.{subtree_of, Within}

-- the formulas of a rule at this world, as `apply_rule` hands them to `apply_here`; of the two modal rules, none
abbrev pub here_of : Rule ℕ → Subtree
here_of nothing = with_middle []
here_of (down fs) = with_middle fs
here_of (split fs gs) = with_left_right fs gs
here_of (as_possible f) = with_middle []
here_of (as_necessary f) = with_middle []

-- the nodes with those of the formulas fs, made by node x at world w
abbrev pub with_nodes : List Node → ℕ → ℕ → Subtree → List Node
with_nodes ns x w fs = ns ++ map (λ f. new_node x f w) (flat (turned fs))

-- one chain in the middle, made from the bottom up; a left and a right chain, as many in each
abbrev pub in_middle : ℕ → ℕ → ProofSubtree
in_middle start count = record { left = empty_chain; middle = falling_chain start count; right = empty_chain }

abbrev pub in_left_right : ℕ → ℕ → ℕ → ProofSubtree
in_left_right left right count = record { left = falling_chain left count; middle = empty_chain; right = falling_chain right count }

-- the tree holds the nodes and those of the formulas; where all fit, the chains are theirs, and no identifier is beyond them
pub record Here (ns : List Node) (x w : ℕ) (fs : Subtree) (r : ProofSubtree) (t : ProofTree) : Type 0 where
  pub nodes : HasNodes (with_nodes ns x w fs) t
  pub chains : length (with_nodes ns x w fs) ≤ most_identifiers → subtree_of r ≡ turned (numbered (length ns) fs)
  pub below : length (with_nodes ns x w fs) ≤ most_identifiers → Within r (length (with_nodes ns x w fs))
