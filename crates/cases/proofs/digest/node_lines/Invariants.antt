use Prim.Native.Nat.{min}
use Rattle.definition.specs.Limits.{most_identifiers}
use Rattle.cases.proofs.Lines.{Left, node}
use Rattle.cases.proofs.digest.node_lines.Given as goal

-- At every turn, the lines of the nodes from i on, fed to the digest so far, give what the lines of all nodes give.
abbrev pub invariant-loop-i : goal.invariant-loop-i
invariant-loop-i l = Left (node l.nodes l.formulas) (min l.identifiers most_identifiers) l.initial.text l.text l.i
