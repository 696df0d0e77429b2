use Prim.Native.Nat.{ℕ, ◌≤◌}
use mathlib.Core.List.{List, map}
use lib.ListN.{length, drop}
use Rattle.definition.specs.Limits.{most_identifiers}
use Rattle.arrays.specs.Listed.{HasList}
use Rattle.definition.specs.Tree.{Node}
use Rattle.definition.specs.Subtree.{append_logic_rule_result}
use Rattle.definition.specs.TreeShape.{TreedThroughout}
use Rattle.tree.specs.Lay.{HasNodes}
use Rattle.subtree.specs.Items.{Item, HasItems, filled, item_from}
use Rattle.subtree.proofs.Rows.{Joining}
use Rattle.subtree.proofs.append_logic_rule_result.Given as goal

-- At every turn, placing the rows that are left gives what placing all of them gives.
abbrev pub invariant-loop-k : goal.invariant-loop-k
invariant-loop-k l = (ns : List Node) (q : List ℕ) (rs : List Item) → HasNodes ns l.fn.tree → (l.fn.tree.len ≤ most_identifiers → HasList q l.fn.waiting) → (l.fn.tree.len ≤ most_identifiers → HasItems rs l.items (length ns)) → TreedThroughout ns q (map item_from rs) → Joining (append_logic_rule_result ns q (map item_from rs)) (drop l.k (filled rs)) (length ns) l.tree l.waiting
