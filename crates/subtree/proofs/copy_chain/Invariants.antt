use mathlib.Core.List.{List, ◌++◌, map}
use lib.ListN.{length, take}
use Rattle.definition.specs.Tree.{Node}
use Rattle.definition.specs.Subtree.{copied}
use Rattle.tree.specs.Lay.{HasNodes}
use Rattle.tree.specs.Chain.{chain_of, ChainBelow, DrawnFrom}
use Rattle.subtree.proofs.copy_chain.Given as goal

-- After k turns the copies of the first k nodes of the chain stand behind the nodes.
abbrev pub invariant-loop-k : goal.invariant-loop-k
invariant-loop-k l = DrawnFrom l.fn.tree.len l.copies l.tree.len × ((ns : List Node) → HasNodes ns l.fn.tree → ChainBelow l.c (length ns) → HasNodes (ns ++ map (copied ns) (take l.k (chain_of l.c))) l.tree)
