use Prim.Native.Nat.{◌≤◌}
use mathlib.Core.Path.{◌≡◌}
use mathlib.Core.List.{List}
use lib.ListN.{length, drop}
use Rattle.definition.specs.Limits.{most_identifiers}
use Rattle.definition.specs.Tree.{Node, link_chain}
use Rattle.tree.specs.Lay.{place_of, HasNodes}
use Rattle.tree.specs.Chain.{chain_of, ChainBelow}
use Rattle.tree.proofs.Chains.{Linking}
use Rattle.tree.proofs.ProofTree.link_chain.Given as goal

-- At every turn, linking what is left of the chain below the last node that was linked gives the whole chain linked.
abbrev pub invariant-loop-k : goal.invariant-loop-k
invariant-loop-k l = (l.self.len ≡ l.initial.self.len) × ((ns : List Node) → HasNodes ns l.initial.self → (length ns ≤ most_identifiers → ChainBelow l.c (length ns)) → Linking (link_chain ns l.initial.above.0 (place_of l.fn.place) (chain_of l.c)) l.self l.above.0 (place_of l.at) (drop l.k (chain_of l.c)))
