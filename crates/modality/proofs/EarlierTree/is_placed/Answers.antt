use Rattle.modality.proofs.Before.{placed_out, placed_in}
use Rattle.modality.proofs.EarlierTree.is_placed.Goals as goal

pub returns-then-x-self : goal.returns-then-x-self
returns-then-x-self c = λ t d. placed_in d _ c.if-x-self.true c.is_placed.ensures

pub returns-else-x-self : goal.returns-else-x-self
returns-else-x-self c = λ t d. placed_out d _ c.if-x-self.false
