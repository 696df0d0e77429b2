use Rattle.formula.proofs.KindNumbers.{kind_of_tag}
use Rattle.formula.proofs.Formulas.make_binary.Goals as goal

pub returns-clause-records : goal.returns-clause-records
returns-clause-records c = λ rs p. rw kind_of_tag at (c.push_input.ensures rs p)
