use mathlib.Core.List.{[], ◌∷◌}
use Rattle.rules.proofs.Here.{here_middle}
use Rattle.rules.proofs.down_two.Goals as goal

pub returns : goal.returns
returns c = λ ns h. let drawn = c.new_node_with_subnode-id.ensures in here_middle c.args.tree.now _ _ h _ (_ ∷ []) drawn.0 drawn.1 c.with_middle_node.ensures
