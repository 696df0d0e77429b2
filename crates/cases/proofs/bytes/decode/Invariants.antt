use mathlib.Core.Path.{◌≡◌}
use Rattle.cases.specs.Bytes.{decoded}
use Rattle.cases.proofs.bytes.decode.Given as goal

-- After n turns the first n bytes are decoded.
abbrev pub invariant-loop-n : goal.invariant-loop-n
invariant-loop-n l = l.bytes.items ≡ decoded l.line l.from l.n
