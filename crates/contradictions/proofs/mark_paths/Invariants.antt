use Prim.Native.Nat.{◌≤◌, ◌-◌}
use mathlib.Core.Path.{◌≡◌}
use mathlib.Core.List.{List}
use Rattle.definition.specs.Limits.{most_identifiers, most_formulas}
use Rattle.definition.specs.Records.{Rec}
use Rattle.definition.specs.Tree.{Node}
use Rattle.definition.specs.Shortcuts.{NoPairAbove}
use Rattle.formula.specs.Recorded.{HasRecords}
use Rattle.tree.specs.Lay.{HasNodes}
use Rattle.contradictions.proofs.Marks.{Marking}
use Rattle.contradictions.proofs.mark_paths.Given as goal

-- After each turn the pairs of the new leaves before k are marked, and `every` says whether each of their paths has one.
abbrev pub invariant-loop-k : goal.invariant-loop-k
invariant-loop-k l = (l.k - l.old ≤ l.k-end - l.old) × (l.tree.len ≡ l.initial.tree.len) × ((rs : List Rec) (ns : List Node) → HasRecords rs l.formulas → l.formulas.records.len ≤ most_formulas → HasNodes ns l.initial.tree → l.initial.tree.len ≤ most_identifiers → NoPairAbove rs ns l.old → Marking rs ns l.old l.tree l.every l.k)
