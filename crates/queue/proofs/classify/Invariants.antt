use Prim.Native.Nat.{ℕ, ◌≤◌}
use mathlib.Core.List.{List, ◌++◌, map}
use lib.ListN.{take}
use Rattle.definition.specs.Limits.{most_identifiers, most_formulas}
use Rattle.arrays.specs.Listed.{HasList}
use Rattle.definition.specs.Records.{Rec}
use Rattle.definition.specs.Tree.{Node}
use Rattle.definition.specs.Setting.{Setting}
use Rattle.definition.specs.Queue as D
use Rattle.formula.specs.Recorded.{HasRecords}
use Rattle.tree.specs.Lay.{Laid}
use Rattle.queue.proofs.classify.Given as goal

-- After each turn the classes of the first i waiting nodes are listed; those from i on are left.
abbrev pub invariant-loop-i : goal.invariant-loop-i
invariant-loop-i l = (F : Setting) (rs : List Rec) (ns : List Node) (q more : List ℕ) → HasRecords rs l.formulas → l.formulas.records.len ≤ most_formulas → Laid ns l.tree → HasList (q ++ more) l.waiting → l.waiting.len ≤ most_identifiers → HasList (map (D.get_node_priority F rs ns) q) l.fn.classes →
    HasList (map (D.get_node_priority F rs ns) (take l.i (q ++ more))) l.classes
