use native.Mathlib.Omega.{arith}
use Rattle.arrays.proofs.Tabled.{tabled_push}
use Rattle.arrays.proofs.Table.push.Goals as goal

pub returns : goal.returns
returns g c = λ b l p. tabled_push _ p (omega arith)
