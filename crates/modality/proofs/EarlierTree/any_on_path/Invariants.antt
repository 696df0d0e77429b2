use Prim.Native.Nat.{ℕ, ◌-◌}
use mathlib.Core.Path.{◌≡◌}
use mathlib.Core.Bool.{Bool}
use mathlib.Core.List.{List}
use Rattle.definition.specs.Lists.{any}
use Rattle.definition.specs.Tree.{Node, upward, path}
use Rattle.modality.specs.Earlier.{HasEarlier}
use Rattle.modality.proofs.EarlierTree.any_on_path.Given as goal

-- At every turn a node of what is left of the path passes the test just if one of the whole path does.
abbrev pub invariant-loop : goal.invariant-loop
invariant-loop g l = (t : List Node) (p : ℕ → Bool) → HasEarlier t l.self → ((x : _) (b : _) → goal.F-post g l.test x b → b ≡ p x.0) → any p (upward (l.self.base - l.counter) t l.cur.0) ≡ any p (path t l.initial.cur.0)
