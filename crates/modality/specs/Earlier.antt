-- The tree as it stood before a step, with the table that it stands in.
use Rattle.std.specs.Prelude.{List}
use Rattle.definition.specs.Tree.{Node}
use Rattle.tree.specs.Stands.{Stands}
use Rattle.modality.specs.declared.EarlierTree.{EarlierTree}

-- its nodes are these
abbrev pub HasEarlier : List Node → EarlierTree → Type 0
HasEarlier t e = Stands t e.base e.tree.now
