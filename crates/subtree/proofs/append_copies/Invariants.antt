use Prim.Native.Nat.{ℕ, ◌≤◌}
use mathlib.Core.List.{List}
use lib.ListN.{length, drop}
use Rattle.definition.specs.Limits.{most_identifiers}
use Rattle.arrays.specs.Listed.{HasList}
use Rattle.definition.specs.Tree.{Node}
use Rattle.definition.specs.Subtree.{append_copies}
use Rattle.tree.specs.Lay.{HasNodes}
use Rattle.subtree.specs.Subtree.{subtree_of, Within}
use Rattle.subtree.proofs.Placing.{Copying}
use Rattle.subtree.proofs.append_copies.Given as goal

-- At every turn, a copy at each leaf that is left gives what a copy at every leaf gives.
abbrev pub invariant-loop-k : goal.invariant-loop-k
invariant-loop-k l = (ns : List Node) (q ls : List ℕ) → HasNodes ns l.fn.tree → (l.fn.tree.len ≤ most_identifiers → HasList q l.fn.waiting) → Within l.s (length ns) → HasList ls l.leaves → l.leaves.len ≤ most_identifiers → Copying (append_copies ns q (drop l.from ls) (subtree_of l.s)) l.s (drop l.k ls) (length ns) l.tree l.waiting
