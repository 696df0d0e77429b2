use mathlib.Core.Path.{◌≡◌}
use mathlib.Core.List.{List}
use Prim.Native.Nat.{◌≤◌}
use lib.ListN.{length}
use Rattle.definition.specs.Limits.{most_formulas}
use Rattle.definition.specs.Records.{Rec, formula_of}
use Rattle.definition.specs.Tree.{Node, node_at}
use Rattle.formula.specs.Recorded.{HasRecords}
use Rattle.semantics.specs.Literal.{Claims}
use Rattle.tree.specs.Lay.{Laid}
use Rattle.contradictions.specs.Found.{found}
use Rattle.contradictions.proofs.Search.{Seeking}
use Rattle.contradictions.proofs.find_above.Given as goal

-- At every turn the pair sought is that of x and the first node from the root that contradicts it among what is left of the path, and where none is left the last one met.
abbrev pub invariant-loop : goal.invariant-loop
invariant-loop l = (rs : List Rec) (ns : List Node) → Claims rs (formula_of rs (node_at ns l.x.0).formula) l.c → HasRecords rs l.formulas → l.formulas.records.len ≤ most_formulas → length ns ≡ l.tree.len → Laid ns l.tree →
    (l.world.0 ≡ (node_at ns l.x.0).world) × Seeking rs ns l.x.0 l.tree.len l.cur.0 (found l.last) l.counter
