use Rattle.cases.proofs.digest.Digest.+number.Given as goal

-- A number below 10 is one figure; any other is n / 10, which is smaller, and then its last figure.
abbrev pub decreases-number : goal.decreases-number
decreases-number l = l.n
