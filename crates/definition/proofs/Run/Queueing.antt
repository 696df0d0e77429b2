-- The first queueing of a branch, by one `push_tree_node`: children before the node itself, so the identifiers from the last to the first.
use Prim.Native.Nat.{ℕ, zero, suc, ◌+◌, ◌≤◌, ◌<◌}
use mathlib.Core.Path.{◌≡◌, refl, sym, ap, ◌∙◌}
use mathlib.Core.Bool.{Bool, true, false, cond}
use mathlib.Core.List.{List, [], ◌∷◌, ◌++◌, reverse, reverse-cons, append_assoc, append-nil}
use mathlib.Core.Logic.{◌≢◌}
use native.Mathlib.Decide.{dec_le}
use native.Mathlib.Omega.{arith}
use lib.Dec.{eqb}
use borrow.Author.Tests.{eq-eqb, ne_eqb}
use lib.ListN.{length, length-map}
use Rattle.definition.specs.Lists.{up_from, below}
use Rattle.definition.specs.Records.{Rec, nobody, is_nobody, marks, marks_from}
use Rattle.definition.specs.Tree.{Node, Children, Middle, Root, childless, node_at, placed_below, with_child, set_child, change, link, link_chain}
use Rattle.definition.specs.Queue.{push_tree_node}
use Rattle.definition.specs.Run.{rooted, branch_nodes, begun}
use Rattle.definition.proofs.Tree.Nodes.{change_other, change_same, length_change, length_link, length_chain}
use Rattle.definition.proofs.Basics.Lists.{cond_both}

cond_yes : {A : Type 0} (b : Bool) (x y : A) → b ≡ true → cond b x y ≡ x
cond_yes b x y e = rw e

cond_no : {A : Type 0} (b : Bool) (x y : A) → b ≡ false → cond b x y ≡ y
cond_no b x y e = rw e

module _ (t : List Node) where
  -- the children, then the node
  unfoldable pub kids : ℕ → List ℕ → Children → ℕ → List ℕ
  kids d q c x = push_tree_node d t (push_tree_node d t (push_tree_node d t q c.left) c.middle) c.right ++ (x ∷ [])

  pub push_zero : (q : List ℕ) (x : ℕ) → push_tree_node 0 t q x ≡ q
  unfolding push_tree_node
  push_zero q x = refl

  push_suc : (d : ℕ) (q : List ℕ) (x : ℕ) → push_tree_node (suc d) t q x ≡ cond (is_nobody x) q (kids d q (node_at t x).children x)
  unfolding push_tree_node kids
  push_suc d q x = refl

  pub push_none : (d : ℕ) (q : List ℕ) (x : ℕ) → is_nobody x ≡ true → push_tree_node d t q x ≡ q
  push_none zero q x e = push_zero q x
  push_none (suc d) q x e = push_suc d q x ∙ cond_yes (is_nobody x) q _ e

  pub push_node : (d : ℕ) (q : List ℕ) (x : ℕ) → is_nobody x ≡ false → push_tree_node (suc d) t q x ≡ kids d q (node_at t x).children x
  push_node d q x e = push_suc d q x ∙ cond_no (is_nobody x) q _ e

-- ---- a chain of middle children
abbrev child : ℕ → Children
child x = record { left = nobody; middle = x; right = nobody }

-- the identifiers y to m - 1, each the middle child of the one before
abbrev Chained : List Node → ℕ → ℕ → Type 0
Chained t y m = (i : ℕ) → y ≤ i → suc i < m → (node_at t i).children ≡ child (suc i)

push_chain : (t : List Node) (m : ℕ) → m ≤ nobody → (d y : ℕ) (q : List ℕ) → y + d ≡ m → Chained t y m → push_tree_node d t q y ≡ q ++ reverse (up_from d y)
unfolding kids
push_chain t m few zero y q e h = push_zero t q y ∙ sym (append-nil q)
push_chain t m few (suc zero) y q e h = push_node t 0 q y (ne_eqb y nobody (λ z. omega (arith, z))) ∙ ends
  where
    ends : kids t 0 q (node_at t y).children y ≡ q ++ (y ∷ [])
    ends = rw (push_zero t _ (node_at t y).children.right, push_zero t _ (node_at t y).children.middle, push_zero t q (node_at t y).children.left)
push_chain t m few (suc (suc d)) y q e h =
    push_node t (suc d) q y (ne_eqb y nobody (λ z. omega (arith, z)))
    ∙ ap (λ (c : Children). kids t (suc d) q c y) (h y (omega arith) (omega arith))
    ∙ more (push_chain t m few (suc d) (suc y) q (omega arith) (λ i a b. h i (omega arith) b))
  where
    none : (p : List ℕ) → push_tree_node (suc d) t p nobody ≡ p
    none p = push_none t (suc d) p nobody (eq-eqb nobody nobody refl)

    more : push_tree_node (suc d) t q (suc y) ≡ q ++ reverse (up_from (suc d) (suc y)) → kids t (suc d) q (child (suc y)) y ≡ q ++ reverse (up_from (suc (suc d)) y)
    more z =
        ap (λ (p : List ℕ). p ++ (y ∷ []))
        (none _ ∙ ap (λ (p : List ℕ). push_tree_node (suc d) t p (suc y)) (none q) ∙ z)
        ∙ append_assoc q (reverse (up_from (suc d) (suc y))) (y ∷ [])
        ∙ ap (λ (p : List ℕ). q ++ p) (sym (reverse-cons y (up_from (suc d) (suc y))))

-- ---- a link of the chain
module _ (t : List Node) (y x : ℕ) (ne : x ≢ y) where
  link_other : (z : ℕ) → z ≢ y → z ≢ x → node_at (link t y Middle x) z ≡ node_at t z
  unfolding link
  link_other z a b = change_other (change t x (placed_below y Middle)) y z (with_child Middle x) a ∙ change_other t x z (placed_below y Middle) b

  link_below : x < length t → (node_at (link t y Middle x) x).children ≡ childless
  unfolding link
  link_below h =
      ap (λ (n : Node). n.children) (change_other (change t x (placed_below y Middle)) y x (with_child Middle x) ne ∙ change_same t x (placed_below y Middle) h)

  link_above : y < length t → (node_at t y).children ≡ childless → (node_at (link t y Middle x) y).children ≡ child x
  unfolding link set_child
  link_above h e =
      ap (λ (n : Node). n.children)
      (change_same (change t x (placed_below y Middle)) y (with_child Middle x) (rw length_change h)
      ∙ ap (with_child Middle x) (change_other t x y (placed_below y Middle) (λ z. ne (sym z))))
      ∙ ap (set_child Middle x) e

-- nodes above y are left, and those from y on are chained
record Shape (t u : List Node) (y : ℕ) : Type 0 where
  pub kept : (i : ℕ) → i < y → (node_at u i).children ≡ (node_at t i).children
  pub chained : Chained u y (length t)

chain_shape : (k y : ℕ) (t : List Node) → suc (y + k) ≡ length t → (node_at t y).children ≡ childless → Shape t (link_chain t y Middle (up_from k (suc y))) y
unfolding link_chain
chain_shape zero y t e h = record { kept = λ i a. refl; chained = λ i a b. absurd (omega arith) }
chain_shape (suc k) y t e h =
    let u = link t y Middle (suc y) in
    let ne : suc y ≢ y = λ z. omega (arith, z) in
    let l : length u ≡ length t = length_link t y Middle (suc y) in
    let s = chain_shape k (suc y) u (omega arith) (link_below t y (suc y) ne (omega arith)) in
    record {
      kept = λ i a. s.kept i (omega arith) ∙ ap (λ (n : Node). n.children) (link_other t y (suc y) ne i (λ z. omega (arith, z)) (λ z. omega (arith, z)));
      chained = λ i a b. elim (dec_le (suc y) i) [
        | yes g ↦ s.chained i g (omega arith)
        | no g ↦ let z : i ≡ y = omega arith in rw z (s.kept y (omega arith) ∙ link_above t y (suc y) ne (omega arith) h)
      ];
    }

-- the root of a branch is queued by one `push_tree_node`: children before the node itself
pub push_rooted : (ns : List Node) → length ns ≤ nobody → push_tree_node (length ns) (rooted ns) [] 0 ≡ reverse (below (length ns))
unfolding rooted
push_rooted [] few = push_zero [] [] 0
push_rooted (x ∷ xs) few =
    let t = placed_below nobody Root x ∷ xs in
    let s = chain_shape (length xs) 0 t (omega arith) refl in
    push_chain (rooted (x ∷ xs)) (length t) few (length t) 0 [] (omega arith) s.chained

pub length_rooted : (ns : List Node) → length (rooted ns) ≡ length ns
unfolding rooted
length_rooted [] = refl
length_rooted (n ∷ ns) = length_chain (placed_below nobody Root n ∷ ns) 0 Middle (up_from (length ns) 1)

-- the waiting nodes of a branch, for the numbers that name a node
pub begun_waiting : (rs : List Rec) → length (branch_nodes rs) ≤ nobody → (begun rs).waiting ≡ reverse (below (length (branch_nodes rs)))
unfolding begun
begun_waiting rs few = ap (λ (n : ℕ). push_tree_node n (rooted (branch_nodes rs)) [] 0) (length_rooted (branch_nodes rs)) ∙ push_rooted (branch_nodes rs) few

-- ---- how many they are
pub length_branch : (rs : List Rec) → length (branch_nodes rs) ≡ length (marks rs)
unfolding branch_nodes
length_branch rs = length-map (marks rs) _

pub few_marks : (i : ℕ) (rs : List Rec) → length (marks_from i rs) ≤ length rs
unfolding marks_from
few_marks i [] = omega arith
few_marks i (r ∷ rs) = cond_both (λ (l : List ℕ). length l ≤ suc (length rs)) (eqb r.mark 1) (i ∷ marks_from (suc i) rs) (marks_from (suc i) rs) (omega (arith, few_marks (suc i) rs)) (omega (arith, few_marks (suc i) rs))
