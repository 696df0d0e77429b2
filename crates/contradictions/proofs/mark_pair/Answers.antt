use mathlib.Core.Path.{refl}
use Rattle.definition.specs.Contradiction.{mark}
use Rattle.contradictions.proofs.mark_pair.Goals as goal

pub returns-in-Some : goal.returns-in-Some
unfolding mark
returns-in-Some c = (c.mark_child_node_as_contradictory.ensures.0, λ ns p. rw c.in-Some.is (c.mark_child_node_as_contradictory.ensures.1 ns p))

pub returns-in_default : goal.returns-in_default
unfolding mark
returns-in_default c = (refl, λ ns p. rw c.in_default.is p)
