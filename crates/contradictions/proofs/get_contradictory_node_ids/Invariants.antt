use Prim.Native.Nat.{◌≤◌}
use mathlib.Core.Path.{◌≡◌}
use mathlib.Core.List.{List}
use lib.ListN.{length}
use Rattle.definition.specs.Limits.{most_formulas}
use Rattle.definition.specs.Records.{Rec}
use Rattle.definition.specs.Tree.{Node}
use Rattle.definition.specs.TreeShape.{spots, In}
use Rattle.definition.specs.Shortcuts.{NoPairAbove}
use Rattle.formula.specs.Recorded.{HasRecords}
use Rattle.tree.specs.Lay.{Laid}
use Rattle.contradictions.proofs.Search.{Searching}
use Rattle.contradictions.proofs.get_contradictory_node_ids.Given as goal

-- At every turn the pair of the node reached is that of the leaf, since no node passed has an earlier one that contradicts it; the path of an old node has none.
abbrev pub invariant-loop : goal.invariant-loop
invariant-loop l = (rs : List Rec) (ns : List Node) → HasRecords rs l.formulas → l.formulas.records.len ≤ most_formulas → length ns ≡ l.tree.len → Laid ns l.tree → NoPairAbove rs ns l.old → In (spots ns) l.initial.cur.0 → l.old ≤ l.initial.cur.0 →
    Searching rs ns l.old l.initial.cur.0 l.cur.0 l.tree.len l.counter
