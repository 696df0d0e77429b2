use Prim.Native.Nat.{min}
use lib.ListN.{length}
use Rattle.definition.specs.Limits.{edge_tray_length}
use Rattle.cases.proofs.Lines.{Left, world}
use Rattle.cases.proofs.digest.Digest.of_trays.Given as goal

-- At every turn, the edge lines of the rows from u on, fed to the digest so far, give what those of all rows give after the node lines.
abbrev pub invariant-loop-u : goal.invariant-loop-u
invariant-loop-u l = Left (world l.fn.trays.edges.now) (min edge_tray_length (length l.fn.trays.edges.now)) l.initial.text l.text l.u
