use Prim.Native.Nat.{ℕ, ◌≤◌}
use mathlib.Core.List.{List, ◌++◌}
use lib.ListN.{take}
use Rattle.definition.specs.Limits.{most_identifiers}
use Rattle.arrays.specs.Listed.{HasList}
use Rattle.definition.specs.Lists.{filter}
use Rattle.definition.specs.Tree.{Node}
use Rattle.definition.specs.Modality.{Necessity}
use Rattle.necessities.specs.Stored.{InRow}
use Rattle.modality.specs.Earlier.{HasEarlier}
use Rattle.modality.proofs.Give.{through}
use Rattle.modality.proofs.leaves_of.Given as goal

-- After j turns the list has, behind what it had, the leaves among the first j whose path runs through a leaf of the necessity.
abbrev pub invariant-loop-j : goal.invariant-loop-j
invariant-loop-j here = (t : List Node) (s : Necessity) (ls l : List ℕ) → HasEarlier t here.earlier → InRow here.k s.leaves here.necessities.leaves.words → HasList ls here.list → here.list.len ≤ most_identifiers → HasList l here.initial.out → HasList (l ++ filter (through t s) (take here.j ls)) here.out
