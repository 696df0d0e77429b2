use Rattle.formula.proofs.Recorded.{push_at}
use Rattle.formula.specs.Recorded.{blank}
use Rattle.formula.proofs.Formulas.push_input.Goals as goal

pub returns : goal.returns
returns c = λ rs p. push_at c.args.input _ c.known_kind.ensures (c.push.ensures blank) p
