use borrow.Author.Rules.{rules}
use Rattle.definition.specs.Tree.{marked_against}
use Rattle.tree.proofs.ProofTree.mark_child_node_as_contradictory.Goals as goal

pub returns : goal.returns
returns c = (c.change.ensures.0, λ ns. c.change.ensures.1 ns (marked_against c.args.contrarian.0) (λ n r e. search rules))
