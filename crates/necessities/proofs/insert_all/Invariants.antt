use Prim.Native.Nat.{ℕ, ◌≤◌, ◌<◌}
use mathlib.Core.List.{List}
use lib.ListN.{take}
use Rattle.definition.specs.Limits.{most_identifiers}
use Rattle.arrays.specs.Listed.{HasList}
use Rattle.definition.specs.Lists.{Each}
use Rattle.necessities.specs.Change.{Added}
use Rattle.necessities.proofs.insert_all.Given as goal

-- After i turns row k has, beside its own, the first i of the listed numbers, and the other rows are as they were.
abbrev pub invariant-loop-i : goal.invariant-loop-i
invariant-loop-i s = (l : List ℕ) → HasList l s.list → s.list.len ≤ most_identifiers → Each (λ x. x < most_identifiers) l → Added s.k (take s.i l) s.initial.leaves.words s.leaves.words
