use Rattle.cases.proofs.Hex.{Hexing}
use Rattle.cases.proofs.bytes.hex_number.Given as goal

-- At every turn n is the number of the digits before the index, and reading on gives what reading all eight gives.
abbrev pub invariant-loop-b : goal.invariant-loop-b
invariant-loop-b l = Hexing l.digits l.n l.b-index
