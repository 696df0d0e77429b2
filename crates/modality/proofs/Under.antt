-- The leaves at and below a node of the tree as it stood, and the necessities whose paths go through a fork.
use Prim.Native.Nat.{ℕ, zero, suc, ◌≤◌}
use mathlib.Core.Path.{◌≡◌, refl, sym, ap, ap₂, ◌∙◌}
use mathlib.Core.Bool.{Bool, true, false, cond, ◌&&◌, ◌||◌}
use mathlib.Core.List.{List, [], ◌++◌}
use mathlib.Core.Logic.{⊎_elim}
use lib.ListN.{length}
use Rattle.definition.specs.Limits.{most_identifiers}
use Rattle.arrays.specs.Listed.{Listed}
use Rattle.definition.specs.Lists.{elem, filter}
use Rattle.definition.specs.Records.{nobody}
use Rattle.definition.specs.Tree.{Node, Place, Left, Middle, Right, node_at, is_leaf, only, leaves_below, leaves, path, child_at}
use Rattle.definition.specs.Modality.{Necessity, Fork, is_reapplied}
use Rattle.definition.proofs.Basics.Lists.{alike, and_left, and_right}
use Rattle.definition.proofs.Tree.Nodes.{node_append}
use Rattle.definition.specs.TreeShape.{placed, spots, In, Treed}
use Rattle.definition.proofs.Tree.Shape.{in_range, leaves_nobody}
use Rattle.definition.proofs.Engine.BelowTarget.{through_is, through_out}
use Rattle.definition.specs.Shortcuts.{ThroughSpawner}
use Rattle.definition.proofs.Engine.Reapplied.{reapplied_is, reapplied_out, reapplied_loose}
use Rattle.tree.proofs.Paths.{listed_as, nobody_leaf}
use Rattle.tree.specs.declared.ProofTree.{ProofTree}
use Rattle.tree.specs.Stands.{Stands}

-- nodes that are not in the tree yet change no leaves
module _ (t : List Node) (r : Treed t) (more : List Node) (room : length (t ++ more) ≤ most_identifiers) where
  none_below : (k : ℕ) → leaves_below k (t ++ more) nobody ≡ []
  unfolding leaves_below only
  none_below zero = refl
  none_below (suc k) = rw (nobody_leaf (t ++ more) nobody room refl) refl

  same_below : (k x : ℕ) → In (spots t) x → leaves_below k (t ++ more) x ≡ leaves_below k t x
  unfolding leaves_below child_at
  same_below zero x i = refl
  same_below (suc k) x i =
      rw (node_append t more x (in_range t x i))
      (ap (cond (is_leaf (node_at t x).children) (only x)) (ap₂ ◌++◌ (child Left (same_below k)) (ap₂ ◌++◌ (child Middle (same_below k)) (child Right (same_below k)))))
    where
      child : (p : Place) → ((y : ℕ) → In (spots t) y → leaves_below k (t ++ more) y ≡ leaves_below k t y) → leaves_below k (t ++ more) (child_at p (node_at t x).children) ≡ leaves_below k t (child_at p (node_at t x).children)
      child p same =
          ⊎_elim (λ (e : child_at p (node_at t x).children ≡ nobody). rw e (none_below k ∙ sym (leaves_nobody t r k))) (λ e. same _ (r.below x p e).there) (alike (child_at p (node_at t x).children) nobody)

-- of a node in the tree, and of one that is not
module _ {t : List Node} {base : ℕ} {a : ProofTree} (r : Treed t) (d : Stands t base a) (x : ℕ) {b : Bool} (e : b ≡ placed (node_at t x).place) where
  pub through_walked : b ≡ true → {n : ℕ} {o : List ℕ} → Listed (leaves_below base (t ++ d.more) x) n o → Listed (filter (λ leaf. elem x (path t leaf)) (leaves t)) n o
  through_walked h =
      let i : In (spots t) x = sym e ∙ h in
      listed_as (filter (λ leaf. elem x (path t leaf)) (leaves t)) (ap (λ (k : ℕ). leaves_below k (t ++ d.more) x) (sym d.count) ∙ same_below t r d.more d.lays.fits (length t) x i ∙ sym (through_is t r x i))

  pub through_none : b ≡ false → {n : ℕ} {o : List ℕ} → Listed [] n o → Listed (filter (λ leaf. elem x (path t leaf)) (leaves t)) n o
  through_none h = listed_as (filter (λ leaf. elem x (path t leaf)) (leaves t)) (sym (through_out t r x (sym e ∙ h)))

-- a necessity and a fork, by their nodes, where the code has found whether both are in the tree
module _ (t : List Node) (r : Treed t) (k : Fork) (n : Necessity) (h : ThroughSpawner t n) {x y : ℕ} (e : k.node ≡ x) (f : n.spawner ≡ y)
    {v : Bool} (both : v ≡ (placed (node_at t x).place && placed (node_at t y).place)) where
  pub none_above : v ≡ false → v ≡ is_reapplied t k n
  none_above q = q ∙ go (placed (node_at t x).place) (placed (node_at t y).place) refl refl (sym both ∙ q)
    where
      go : (a b : Bool) → placed (node_at t x).place ≡ a → placed (node_at t y).place ≡ b → (a && b) ≡ false → false ≡ is_reapplied t k n
      go false b p s z = reapplied_loose t r k n h (rw e p)
      go true b p s z = reapplied_out t r k n h (rw f (s ∙ z))

  pub one_above : v ≡ true → (elem y (path t x) || elem x (path t y)) ≡ is_reapplied t k n
  one_above q =
      let z : (placed (node_at t x).place && placed (node_at t y).place) ≡ true = sym both ∙ q in
      ap₂ (λ (i j : ℕ). elem j (path t i) || elem i (path t j)) (sym e) (sym f)
      ∙ reapplied_is t r k n h (rw e (and_left (placed (node_at t x).place) (placed (node_at t y).place) z)) (rw f (and_right (placed (node_at t x).place) (placed (node_at t y).place) z))
