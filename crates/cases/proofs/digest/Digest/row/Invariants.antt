use Rattle.cases.proofs.Lines.{Left, edge}
use Rattle.cases.proofs.digest.Digest.row.Given as goal

-- At every turn the edge lines from v on, fed to the digest so far, give what all 32 give.
abbrev pub invariant-loop-v : goal.invariant-loop-v
invariant-loop-v l = Left (edge l.u l.bits) 32 l.initial.text l.text l.v
