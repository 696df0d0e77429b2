use Prim.Native.Nat.{ℕ, ◌≤◌}
use mathlib.Core.Path.{◌≡◌}
use mathlib.Core.List.{List, [], ◌++◌}
use mathlib.Core.Option.{Option}
use lib.ListN.{length, drop}
use Rattle.definition.specs.Limits.{most_identifiers}
use Rattle.arrays.specs.Listed.{HasList}
use Rattle.bits.specs.Worlds.{worlds_in}
use Rattle.definition.specs.Lists.{Each}
use Rattle.definition.specs.Tree.{Node}
use Rattle.definition.specs.Modality.{Necessity, Fork, give_on}
use Rattle.tree.specs.Lay.{HasNodes}
use Rattle.subtree.specs.Items.{Item, Listing}
use Rattle.modality.specs.Seen.{Seen}
use Rattle.logic.proofs.Giving.{Giving}
use Rattle.logic.proofs.give_on.Given as goal

-- What is given so far and what the paths that are left still give is all that is to be given; each turn gives on one path.
abbrev pub invariant-loop-j : goal.invariant-loop-j
invariant-loop-j l =
    (t more : List Node) (fk : Option Fork) (n : Necessity) (ls : List ℕ) (rs : List Item) → n.spawner ≡ l.spawner.0 → n.formula ≡ l.formula.0 →
    HasList ls l.on → l.on.len ≤ most_identifiers → Each (Seen t fk l.seen) ls → HasNodes (t ++ more) l.fn.tree → (l.fn.tree.len ≤ most_identifiers → Listing rs [] l.fn.items l.fn.tree.len) →
    Giving t fk n (worlds_in l.worlds.0) (drop l.j ls) ((t ++ more) ++ (give_on t fk n (worlds_in l.worlds.0) (length (t ++ more)) ls).nodes) rs (give_on t fk n (worlds_in l.worlds.0) (length (t ++ more)) ls).subtrees l.tree l.items
