-- Chains of identifiers, and the loop of `link_chain`.
use Prim.Native.Nat.{ℕ, zero, suc, ◌+◌, ◌-◌, ◌<◌, ◌≤◌}
use mathlib.Core.Path.{◌≡◌, refl, sym, ap, ◌∙◌, subst}
use mathlib.Core.Bool.{Bool, true, false, cond}
use mathlib.Core.List.{List, [], ◌∷◌, reverse, reverse_aux}
use mathlib.Core.Logic.{◌⊎◌, inl, inr}
use native.Mathlib.Omega.{arith}
use native.Mathlib.Numerals.{add-one}
use native.Mathlib.Decide.{dec_le}
use lib.ListN.{length, get_or, drop, length-reverse, drop_of_length-le}
use lib.Seq.{drop-cons}
use Rattle.definition.specs.Limits.{most_identifiers}
use Rattle.definition.specs.Lists.{up_from}
use Rattle.definition.specs.Tree.{Node, Place, Middle, link, link_chain}
use Rattle.definition.proofs.Basics.Lists.{from_get}
use Rattle.definition.proofs.Tree.Nodes.{length_chain}
use Rattle.definition.proofs.Basics.Identifiers.{length_from}
use Rattle.tree.specs.declared.Chain.{Chain}
use Rattle.tree.specs.Chain.{chain_of, empty_chain, ChainBelow, Spans, DrawnFrom}
use Rattle.tree.specs.Sequence.{Draws}
use Rattle.tree.specs.declared.ProofTree.{ProofTree}
use Rattle.tree.specs.declared.ProofTreeNode.{ProofTreeNode}
use Rattle.tree.specs.Lay.{Held, HasNodes}
use Rattle.tree.proofs.Sequence.{drawn_next}
use Rattle.tree.proofs.Nodes.{held_ok, held_long, held_as}

past : (l r : List ℕ) (k : ℕ) → get_or (reverse_aux l r) (length l + k) 0 ≡ get_or r k 0
past [] r k = ap (λ (j : ℕ). get_or r j 0) (omega arith)
past (x ∷ m) r k = ap (λ (j : ℕ). get_or (reverse_aux m (x ∷ r)) j 0) (omega arith) ∙ past m (x ∷ r) (suc k)

down_get : (n s k : ℕ) (r : List ℕ) → k < n → get_or (reverse_aux (up_from n s) r) k 0 ≡ s + (n - 1 - k)
down_get zero s k r h = absurd (omega arith)
down_get (suc n) s k r h = elim (dec_le n k) [
  | yes g ↦ ap (λ (j : ℕ). get_or (reverse_aux (up_from n (suc s)) (s ∷ r)) j 0) (omega (arith, length_from n (suc s))) ∙ past (up_from n (suc s)) (s ∷ r) 0 ∙ omega arith
  | no g ↦ down_get n (suc s) k (s ∷ r) (omega arith) ∙ omega arith
]

module _ (c : Chain) where
  pub chain_length : length (chain_of c) ≡ c.count
  unfolding chain_of
  chain_length = go c.rising
    where
      go : (b : Bool) → length (cond b (up_from c.count c.start.0) (reverse (up_from c.count c.start.0))) ≡ c.count
      go true = length_from c.count c.start.0
      go false = length-reverse (up_from c.count c.start.0) ∙ length_from c.count c.start.0

  pub chain_up : (k : ℕ) → c.rising ≡ true → k < c.count → c.start.0 + k ≡ get_or (chain_of c) k 0
  unfolding chain_of
  chain_up k e h = rw e (sym (from_get c.count c.start.0 k h))

  pub chain_down : (k : ℕ) → c.rising ≡ false → k < c.count → c.start.0 + (c.count - 1 - k) ≡ get_or (chain_of c) k 0
  unfolding chain_of
  chain_down k e h = rw e (sym (down_get c.count c.start.0 k [] h))

-- within a chain that fits
pub inside : (c : Chain) (k : ℕ) {A : Type 0} → k < c.count → c.start.0 + c.count ≤ most_identifiers → (c.count ≤ k) ⊎ (most_identifiers < c.start.0 + c.count) → A
inside c k h g (inl e) = absurd (omega (arith, h, e))
inside c k h g (inr e) = absurd (omega (arith, g, e))

-- ---- a chain of identifiers that were drawn
module _ {c : Chain} {lo hi : ℕ} (s : Spans c lo hi) where
  pub spans_below : ChainBelow c hi
  spans_below = omega (arith, s.ends, s.low)

  pub spans_chain : chain_of c ≡ up_from c.count lo
  unfolding chain_of
  spans_chain = ap (λ (b : Bool). cond b (up_from c.count c.start.0) (reverse (up_from c.count c.start.0))) s.rises ∙ go s.begins
    where
      go : (c.count ≡ 0) ⊎ (c.start.0 ≡ lo) → up_from c.count c.start.0 ≡ up_from c.count lo
      go (inl z) = ap (λ (n : ℕ). up_from n c.start.0) z ∙ sym (ap (λ (n : ℕ). up_from n lo) z)
      go (inr e) = ap (up_from c.count) e

pub drawn_none : (n : ℕ) → DrawnFrom n empty_chain n
drawn_none n h = record { rises = refl; ends = omega arith; low = omega arith; begins = inl refl }

-- the chain d of c and the identifier drawn after it
pub drawn_more : {c : Chain} {n m x lo : ℕ} (d : Chain) → Draws n m x → DrawnFrom lo c n
    → ((k : ℕ) → x < most_identifiers → Spans c k x → Spans d k (x + 1)) → DrawnFrom lo d m
drawn_more {c} {n} {m} {x} {lo} d draws before extends small =
    let next = drawn_next draws small in
    subst (Spans d lo) (ap (λ (k : ℕ). k + 1) next.id ∙ sym next.count)
    (extends lo (omega (arith, next.id, next.room)) (subst (Spans c lo) (sym next.id) (before (omega (arith, next.room)))))

-- ---- the loop of `link_chain`: the rest of the chain goes below `above`, its first at a place
pub record Linking (goal : List Node) (t : ProofTree) (above : ℕ) (place : Place) (rest : List ℕ) : Type 0 where
  pub nodes : List Node
  pub has : HasNodes nodes t
  pub same : link_chain nodes above place rest ≡ goal

chain_cons : (t : List Node) (y : ℕ) (p : Place) (x : ℕ) (xs : List ℕ) → link_chain t y p (x ∷ xs) ≡ link_chain (link t y p x) x Middle xs
unfolding link_chain
chain_cons t y p x xs = refl

chain_nil : (t : List Node) (y : ℕ) (p : Place) → link_chain t y p [] ≡ t
unfolding link_chain
chain_nil t y p = refl

module _ {goal : List Node} {t : ProofTree} {above : ℕ} {place : Place} (c : Chain) (k : ℕ) (l : Linking goal t above place (drop k (chain_of c))) where
  pub linking_next : {u : ProofTree} (x : ℕ) → k < c.count → x ≡ get_or (chain_of c) k 0 →
      ((ns : List Node) → HasNodes ns t → HasNodes (link ns above place x) u) →
      Linking goal u x Middle (drop (k + 1) (chain_of c))
  linking_next x h e f =
      let xs = chain_of c in
      let ms = link l.nodes above place x in
      record {
        nodes = ms;
        has = f l.nodes l.has;
        same =
            ap (λ (j : ℕ). link_chain ms x Middle (drop j xs)) (add-one k)
            ∙ sym (chain_cons l.nodes above place x (drop (suc k) xs))
            ∙ ap (λ (z : ℕ). link_chain l.nodes above place (z ∷ drop (suc k) xs)) e
            ∙ ap (link_chain l.nodes above place) (sym (drop-cons xs k 0 (omega (arith, chain_length c))))
            ∙ l.same;
      }

  pub linking_end : c.count ≤ k → HasNodes goal t
  linking_end h =
      held_as goal
      (sym (chain_nil l.nodes above place)
      ∙ ap (link_chain l.nodes above place) (sym (drop_of_length-le (chain_of c) {i = k} (omega (arith, chain_length c))))
      ∙ l.same)
      l.has

-- a chain of nodes that fit
pub below_fits : {ns : List Node} {len : ℕ} {a : List ProofTreeNode} (c : Chain) → len ≤ most_identifiers → Held ns len a → (length ns ≤ most_identifiers → ChainBelow c (length ns)) → ChainBelow c most_identifiers
below_fits c h p b = let e = (held_ok p h).0 in omega (arith, e, b (omega (arith, e, h)))

pub chain_full : {ns : List Node} {len : ℕ} {a : List ProofTreeNode} (y : ℕ) (p : Place) (xs : List ℕ) → most_identifiers < len → Held ns len a → Held (link_chain ns y p xs) len a
chain_full {ns} y p xs h q = held_long (link_chain ns y p xs) q h (omega (arith, length_chain ns y p xs))
