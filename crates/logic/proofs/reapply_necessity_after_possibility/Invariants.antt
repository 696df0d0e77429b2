use Prim.Native.Nat.{◌≤◌, ◌<◌}
use mathlib.Core.Path.{◌≡◌}
use mathlib.Core.List.{List, [], ◌++◌}
use mathlib.Core.Option.{some}
use lib.ListN.{length}
use Rattle.definition.specs.Limits.{most_identifiers}
use Rattle.definition.specs.Lists.{Each}
use Rattle.definition.specs.Graph.{Graph}
use Rattle.definition.specs.Tree.{Node, leaves}
use Rattle.definition.specs.Modality.{Necessity, Fork, reapply_necessity_after_possibility}
use Rattle.definition.specs.TreeShape.{Treed}
use Rattle.definition.specs.Shortcuts.{ThroughSpawner}
use Rattle.graph.specs.Drawn.{HasGraph}
use Rattle.tree.specs.Lay.{HasNodes}
use Rattle.necessities.specs.Stack.{HasStack}
use Rattle.subtree.specs.Items.{Item, Listing}
use Rattle.modality.specs.Seen.{Seen}
use Rattle.logic.proofs.Again.{Again}
use Rattle.logic.proofs.reapply_necessity_after_possibility.Given as goal

-- The leaf bits stay. The last k necessities of the stack are left; what the others gave and what these still give is all that is to be given. At the end the stack is turned.
abbrev pub invariant-loop-k : goal.invariant-loop-k
invariant-loop-k l = (l.necessities.leaves ≡ l.fn.necessities.leaves) × (
    (t more : List Node) (g : Graph) (ns : List Necessity) (rs : List Item) (fk : Fork) → HasStack ns l.fn.necessities → fk.node ≡ l.node.0 → HasGraph g l.graph → length t ≡ l.base →
    Treed t → Each (ThroughSpawner t) ns → (0 < l.fn.necessities.count → Each (Seen t (some fk) l.seen) (leaves t)) → HasNodes (t ++ more) l.fn.tree → (l.fn.tree.len ≤ most_identifiers → Listing rs [] l.fn.items l.fn.tree.len) →
    Again t g fk ns ((t ++ more) ++ (reapply_necessity_after_possibility t g fk (length (t ++ more)) ns).nodes) rs (reapply_necessity_after_possibility t g fk (length (t ++ more)) ns).subtrees l.k l.tree l.items l.necessities)
