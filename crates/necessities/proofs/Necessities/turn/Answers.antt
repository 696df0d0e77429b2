use Rattle.necessities.proofs.Stacks.{stack_turn}
use Rattle.necessities.proofs.Necessities.turn.Goals as goal

pub returns-clause-stack : goal.returns-clause-stack
returns-clause-stack c = λ ns s. stack_turn s c.reverse.ensures.after
