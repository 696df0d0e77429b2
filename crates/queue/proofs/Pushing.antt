-- The ends of `push_tree_node`.
use Prim.Native.Nat.{ℕ, suc, ◌-◌}
use mathlib.Core.Path.{◌≡◌, sym, ap, ◌∙◌}
use mathlib.Core.Bool.{Bool, true, false}
use mathlib.Core.List.{List, [], ◌∷◌, ◌++◌}
use native.Mathlib.Nat.{pos_of_ne-zero}
use native.Mathlib.Omega.{arith}
use Rattle.arrays.specs.Listed.{Listed}
use Rattle.definition.specs.Records.{is_nobody}
use Rattle.definition.specs.Tree.{Node, node_at}
use Rattle.definition.specs.Queue.{push_tree_node}
use Rattle.definition.proofs.Run.Queueing.{kids, push_zero, push_none, push_node}

listed_as : {l : List ℕ} {n : ℕ} {a : List ℕ} (m : List ℕ) → l ≡ m → Listed l n a → Listed m n a
listed_as m e p = rw (← e) p

module _ (t : List Node) where
  -- ---- the ends of `push_tree_node`
  module _ {q : List ℕ} {n : ℕ} {a : List ℕ} (d x : ℕ) where
    pub push_deep : d ≡ 0 → Listed q n a → Listed (push_tree_node d t q x) n a
    push_deep e p = listed_as (push_tree_node d t q x) (sym (ap (λ (k : ℕ). push_tree_node k t q x) e ∙ push_zero t q x)) p

    pub push_nobody : (b : Bool) → b ≡ is_nobody x → b ≡ true → Listed q n a → Listed (push_tree_node d t q x) n a
    push_nobody b e z p = listed_as (push_tree_node d t q x) (sym (push_none t d q x (sym e ∙ z))) p

  pub push_kids : (q : List ℕ) {m : ℕ} {a : List ℕ} (d x l c r : ℕ) (b : Bool) → (d ≡ 0 → ⊥) → b ≡ is_nobody x → b ≡ false →
      l ≡ (node_at t x).children.left → c ≡ (node_at t x).children.middle → r ≡ (node_at t x).children.right →
      Listed (push_tree_node (d - 1) t (push_tree_node (d - 1) t (push_tree_node (d - 1) t q l) c) r ++ (x ∷ [])) m a → Listed (push_tree_node d t q x) m a
  unfolding kids
  push_kids q d x l c r b h e z el ec er p =
      let s : d ≡ suc (d - 1) = omega (arith, pos_of_ne-zero h) in
      listed_as (push_tree_node d t q x)
      (rw (el, ec, er) (sym (ap (λ (k : ℕ). push_tree_node k t q x) s ∙ push_node t (d - 1) q x (sym e ∙ z)))) p
