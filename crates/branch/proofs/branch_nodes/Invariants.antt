use Prim.Native.Nat.{◌≤◌}
use mathlib.Core.List.{List, []}
use Rattle.definition.specs.Limits.{most_formulas}
use Rattle.definition.specs.Records.{Rec}
use Rattle.formula.specs.Recorded.{HasRecords}
use Rattle.tree.specs.Lay.{HasNodes}
use Rattle.branch.proofs.Begun.{Beginning}
use Rattle.branch.proofs.branch_nodes.Given as goal

-- After i turns the nodes made so far, which are the chain's, and those that the records from i on still give are all nodes of the branch.
abbrev pub invariant-loop-i : goal.invariant-loop-i
invariant-loop-i l = (rs : List Rec) → HasRecords rs l.formulas → l.formulas.records.len ≤ most_formulas → HasNodes [] l.initial.tree → Beginning rs l.made l.tree l.i
