use borrow.Author.Rules.{rules}
use native.Mathlib.Omega.{arith}
use Rattle.definition.specs.Tree.{link, placed_below, with_child}
use Rattle.tree.specs.Lay.{place_of}
use Rattle.tree.proofs.ProofTree.link.Goals as goal

pub returns : goal.returns
unfolding link
returns c =
    let a = c.args in
    (omega arith, λ ns p. c.change-2.ensures.1 _ (with_child (place_of a.place) a.x.0) (λ n r e. search rules) (c.change.ensures.1 ns (placed_below a.y.0 (place_of a.place)) (λ n r e. search rules) p))
