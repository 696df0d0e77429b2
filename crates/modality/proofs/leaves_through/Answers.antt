use mathlib.Core.List.{[], ◌++◌}
use Rattle.modality.proofs.Under.{through_walked, through_none}
use Rattle.modality.proofs.leaves_through.Goals as goal

pub returns-then-is_placed : goal.returns-then-is_placed
returns-then-is_placed c = λ t r d l. through_walked r d _ (c.is_placed.ensures t d) c.if-is_placed.true (c.leaves_below.ensures (t ++ d.more) [] d.lays l)

pub returns-else-is_placed : goal.returns-else-is_placed
returns-else-is_placed c = λ t r d l. through_none r d _ (c.is_placed.ensures t d) c.if-is_placed.false l
