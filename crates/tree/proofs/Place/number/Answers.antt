use Rattle.std.proofs.Common.{rules}
use Rattle.definition.specs.Tree.{place_number}
use Rattle.tree.proofs.Place.number.Goals as goal

pub returns : goal.returns
unfolding place_number
returns c = search rules
