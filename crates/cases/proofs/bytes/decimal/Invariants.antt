use Rattle.cases.proofs.Words.{Summing}
use Rattle.cases.proofs.bytes.decimal.Given as goal

-- At every turn n is the number of the digits before the index, and reading the others onto it gives what reading all gives.
abbrev pub invariant-loop-b : goal.invariant-loop-b
invariant-loop-b l = Summing l.digits l.n l.b-index
