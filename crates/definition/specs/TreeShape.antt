-- The nodes are a tree: parents and children agree, and depths rise by one. The paper takes it for granted; every state of the run of an accepted branch has it.
use Rattle.std.specs.Prelude.{◌≡◌, Bool, true, false, List, [], ◌∷◌, ◌≢◌, ℕ, suc, ◌≤◌, length}
use Rattle.definition.specs.Limits.{most_identifiers}
use Rattle.definition.specs.Records.{nobody}
use Rattle.definition.specs.Tree.{Place, Root, Left, Middle, Right, Unplaced, Children, Node, childless, child_at, node_at, is_leaf}
use Rattle.definition.specs.Subtree.{Targeted, append_subtree}

-- where a node stands
pub record Spot : Type 0 where
  pub parent : ℕ
  pub place : Place
  pub children : Children

abbrev pub spot : Node → Spot
spot n = record { parent = n.parent; place = n.place; children = n.children }

abbrev pub spots : List Node → ℕ → Spot
spots t x = spot (node_at t x)

abbrev pub nowhere : Spot
nowhere = record { parent = nobody; place = Unplaced; children = childless }

unfoldable pub placed : Place → Bool
placed Root = true
placed Left = true
placed Middle = true
placed Right = true
placed Unplaced = false

-- x is in the tree
abbrev pub In : (ℕ → Spot) → ℕ → Type 0
In g x = placed (g x).place ≡ true

abbrev pub Out : (ℕ → Spot) → ℕ → Type 0
Out g x = placed (g x).place ≡ false

-- c is the child of x at p
pub record Child (g : ℕ → Spot) (depth : ℕ → ℕ) (x : ℕ) (p : Place) (c : ℕ) : Type 0 where
  pub there : In g c
  pub parent : (g c).parent ≡ x
  pub place : (g c).place ≡ p
  pub deeper : depth c ≡ suc (depth x)

-- the parent of x has it for a child
pub record Parent (g : ℕ → Spot) (depth : ℕ → ℕ) (x : ℕ) : Type 0 where
  pub there : In g (g x).parent
  pub child : child_at (g x).place (g (g x).parent).children ≡ x
  pub deeper : depth x ≡ suc (depth (g x).parent)

-- node 0 is the root; each further node of the tree has a parent in it; parents and children agree; what is not in the tree stands nowhere
pub record Tree (g : ℕ → Spot) : Type 0 where
  pub depth : ℕ → ℕ
  pub root : (g 0).place ≡ Root
  pub orphan : (g 0).parent ≡ nobody
  pub top : depth 0 ≡ 0
  pub above : (x : ℕ) → In g x → x ≢ 0 → Parent g depth x
  pub below : (x : ℕ) (p : Place) → child_at p (g x).children ≢ nobody → Child g depth x p (child_at p (g x).children)
  pub loose : (x : ℕ) → Out g x → g x ≡ nowhere
  pub nobody_out : Out g nobody

-- x is in the tree and has no child
abbrev pub Bare : (ℕ → Spot) → ℕ → Type 0
Bare g x = In g x × (is_leaf (g x).children ≡ true)

abbrev pub Treed : List Node → Type 0
Treed t = Tree (spots t)

-- each tree on which one of the subtrees is placed is a tree, if it fits
abbrev pub TreedThroughout : List Node → List ℕ → List Targeted → Type 0
TreedThroughout t q [] = Unit {0}
TreedThroughout t q (a ∷ rs) =
    (length t ≤ most_identifiers → Treed t) × TreedThroughout (append_subtree t q a.target a.subtree).nodes (append_subtree t q a.target a.subtree).waiting rs
