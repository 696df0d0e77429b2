use Rattle.cases.proofs.digest.Digest.+formula.Given as goal

-- The formulas of the links are earlier ones.
abbrev pub decreases-formula : goal.decreases-formula
decreases-formula l = l.f
