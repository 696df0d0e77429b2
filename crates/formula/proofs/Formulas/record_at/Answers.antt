use native.Mathlib.Omega.{arith}
use Rattle.definition.specs.Records.{number_of}
use Rattle.formula.proofs.Recorded.{read_far, read_at}
use Rattle.formula.proofs.Formulas.record_at.Goals as goal

pub returns-then-min-i : goal.returns-then-min-i
unfolding number_of
returns-then-min-i c = λ rs p h. read_far _ p h (omega arith)

pub returns : goal.returns
returns c = λ rs p h. read_at _ _ p h (omega arith)
