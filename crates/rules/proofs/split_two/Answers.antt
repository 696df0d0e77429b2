use mathlib.Core.Path.{refl}
use mathlib.Core.List.{[], ◌∷◌}
use Rattle.rules.proofs.Here.{here_split}
use Rattle.rules.proofs.split_two.Goals as goal

pub returns : goal.returns
returns c = λ ns h.
    let left = c.new_node_with_subnode-left.ensures in
    let right = c.new_node_with_subnode-right.ensures in
    here_split c.args.tree.now _ _ h c.new_node_with_subnode-left.new.tree _ (_ ∷ []) (_ ∷ _ ∷ []) refl left.0 right.0 left.1 right.1 c.with_left_right_nodes.ensures
