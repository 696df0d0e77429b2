use Rattle.necessities.proofs.Stacks.{stack_visit}
use Rattle.necessities.proofs.Necessities.visit.Goals as goal

pub returns-clause-stack : goal.returns-clause-stack
returns-clause-stack c = λ ns i none s e. stack_visit i _ none _ _ s e c.union.ensures
