use native.Mathlib.Omega.{arith}
use Rattle.formula.proofs.Formulas.new.Goals as goal

pub returns : goal.returns
returns c = record { held = c.new.ensures (omega arith) }
