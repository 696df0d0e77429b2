use Prim.Native.Nat.{ℕ}
use mathlib.Core.List.{List, ◌++◌}
use lib.ListN.{take}
use Rattle.definition.specs.Limits.{most_identifiers}
use Rattle.arrays.specs.Listed.{HasList}
use Rattle.tree.specs.Chain.{chain_of, ChainBelow}
use Rattle.subtree.proofs.push_chain.Given as goal

-- After k turns the first k identifiers of the chain stand behind the list.
abbrev pub invariant-loop-k : goal.invariant-loop-k
invariant-loop-k l = (q : List ℕ) → HasList q l.fn.out → ChainBelow l.c most_identifiers → HasList (q ++ take l.k (chain_of l.c)) l.out
