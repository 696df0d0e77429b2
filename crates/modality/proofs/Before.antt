-- Reads of the tree as it stood before a step.
use Prim.Native.Nat.{ℕ, ◌<◌, ◌≤◌}
use mathlib.Core.Path.{◌≡◌, sym, ap, ◌∙◌}
use mathlib.Core.Bool.{Bool}
use mathlib.Core.List.{List, ◌++◌}
use native.Mathlib.Omega.{arith}
use lib.Dec.{ltb}
use lib.ListN.{get_or-eq_default}
use borrow.Author.Tests.{le-ltb}
use Rattle.definition.specs.Lists.{elem}
use Rattle.definition.specs.Records.{nobody}
use Rattle.definition.specs.Tree.{Node, new_node, node_at}
use Rattle.definition.specs.Modality.{Necessity}
use Rattle.definition.proofs.Tree.Nodes.{node_append}
use Rattle.definition.specs.TreeShape.{placed}
use Rattle.tree.specs.declared.ProofTree.{ProofTree}
use Rattle.tree.specs.Lay.{Laid}
use Rattle.tree.specs.Stands.{Stands}

-- ---- in the tree as it stood
module _ {t : List Node} {base : ℕ} {a : ProofTree} (d : Stands t base a) (x : ℕ) where
  pub placed_out : base ≤ x → ltb x base ≡ placed (node_at t x).place
  unfolding placed
  placed_out h = le-ltb x base h ∙ ap (λ (n : Node). placed n.place) (sym (get_or-eq_default t (new_node nobody nobody nobody) (omega (arith, d.count))))

  pub placed_in : x < base → {b : Bool} → ((ns : List Node) → Laid ns a → b ≡ placed (node_at ns x).place) → b ≡ placed (node_at t x).place
  placed_in low e = e (t ++ d.more) d.lays ∙ ap (λ (n : Node). placed n.place) (node_append t d.more x (omega (arith, d.count)))

-- what a loop up a path looks for
abbrev pub stored : Necessity → ℕ → Bool
stored n y = elem y n.leaves
