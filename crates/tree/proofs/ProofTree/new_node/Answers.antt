use borrow.Author.Rules.{rules}
use native.Mathlib.Omega.{arith}
use Rattle.definition.specs.Tree.{new_node}
use Rattle.tree.proofs.Nodes.{new_drawn}
use Rattle.tree.proofs.ProofTree.new_node.Goals as goal

pub returns : goal.returns
returns c =
    let drawn = c.new_node_id-x.ensures in
    let a = c.args in (
      record { id = drawn.0.id; count = omega (arith, drawn.0.count, c.change.ensures.0) },
      λ ns p. new_drawn ns _ drawn.0 drawn.1 (c.change.ensures.0, λ ms. c.change.ensures.1 ms (λ m. new_node a.spawner.0 a.formula.0 a.world.0) (λ m r e. search rules)) p,
    )
