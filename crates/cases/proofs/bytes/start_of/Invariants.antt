use Rattle.cases.proofs.Words.{Starting}
use Rattle.cases.proofs.bytes.start_of.Given as goal

-- At every turn word k of the line starts where word `k - spaces` of what is left from i on starts; `spaces` is at most k.
abbrev pub invariant-loop-i : goal.invariant-loop-i
invariant-loop-i l = Starting l.line l.k l.spaces l.i
