use mathlib.Core.List.{[]}
use Rattle.rules.proofs.Here.{here_middle}
use Rattle.rules.proofs.down_one.Goals as goal

pub returns : goal.returns
returns c = λ ns h. let drawn = c.new_node-id.ensures in here_middle c.args.tree.now _ _ h _ [] drawn.0.id drawn.1 c.with_middle_node.ensures
