-- A set of nodes that holds the root, each node's parent, and a child of each node that has one: what links do to it.
use mathlib.Core.Path.{◌≡◌, refl, sym, ap, ◌∙◌, subst}
use mathlib.Core.Bool.{Bool, true, false, ◌||◌, or-true}
use mathlib.Core.List.{List, [], ◌∷◌, ◌++◌, reverse}
use mathlib.Core.Logic.{◌⊎◌, inl, inr, ⊎_elim, ⊎_map, ◌≢◌}
use Prim.Native.Nat.{ℕ, zero, suc, ◌<◌, ◌≤◌}
use native.Mathlib.Omega.{arith}
use lib.Dec.{eqb}
use borrow.Author.Tests.{eq-eqb, ne_eqb}
use lib.ListN.{length}
use Rattle.definition.specs.Lists.{Each, Distinct, elem}
use Rattle.definition.specs.Records.{is_nobody}
use Rattle.definition.specs.Tree.{Node, Children, Place, Left, Middle, Right, node_at, placed_below, set_child, with_child, change, link, link_chain, is_leaf, only, leaves_below, upward, leaves, path}
use Rattle.definition.specs.Subtree.{Subtree, with_middle, flat, turned, append_subtree_on_leaf}
use Rattle.definition.proofs.Basics.Lists.{true_false, cond_both, Some, each_map, each_both, each_left, each_right, some_append_left, some_append_right, elem_each, one_or_other, Full, full_reverse, each_reverse}
use Rattle.definition.proofs.Tree.Nodes.{change_other, change_same, length_change, change_keeps, length_link, length_chain}
use Rattle.definition.proofs.Basics.Identifiers.{distinct_right, distinct_apart}

abbrev pub In : (ℕ → Bool) → ℕ → Type 0
In S x = S x ≡ true

abbrev pub Out : (ℕ → Bool) → ℕ → Type 0
Out S x = S x ≡ false

-- a child in the set
pub data Child (S : ℕ → Bool) (c : Children) : Type 0 where
  at_left : S c.left ≡ true → Child S c
  at_middle : S c.middle ≡ true → Child S c
  at_right : S c.right ≡ true → Child S c

abbrev pub Up : List Node → (ℕ → Bool) → ℕ → Type 0
Up t S x = (is_nobody (node_at t x).parent ≡ true) ⊎ (S (node_at t x).parent ≡ true)

abbrev pub Down : List Node → (ℕ → Bool) → ℕ → Type 0
Down t S x = (is_leaf (node_at t x).children ≡ true) ⊎ Child S (node_at t x).children

-- the set S of nodes of the tree t; e is a node that may lack a child in the set
pub record Runs (t : List Node) (S : ℕ → Bool) (e : ℕ) : Type 0 where
  pub root : S 0 ≡ true
  pub known : (x : ℕ) → S x ≡ true → x < length t
  pub named : (x : ℕ) → S x ≡ true → is_nobody x ≡ false
  pub up : (x : ℕ) → S x ≡ true → Up t S x
  pub down : (x : ℕ) → S x ≡ true → x ≢ e → Down t S x

-- no node may lack a child
abbrev pub Whole : List Node → (ℕ → Bool) → Type 0
Whole t S = (e : ℕ) → Runs t S e

child_some : (S : ℕ → Bool) (f : ℕ → List ℕ) (c : Children) → ((y : ℕ) → In S y → Some (In S) (f y)) → Child S c →
    Some (In S) (f c.left ++ (f c.middle ++ f c.right))
child_some S f c k (at_left q) = some_append_left (In S) (f c.left) _ (k c.left q)
child_some S f c k (at_middle q) = some_append_right (In S) (f c.left) _ (some_append_left (In S) (f c.middle) _ (k c.middle q))
child_some S f c k (at_right q) = some_append_right (In S) (f c.left) _ (some_append_right (In S) (f c.middle) _ (k c.right q))

module _ (t : List Node) (S : ℕ → Bool) (w : Whole t S) where
  up_each : (n x : ℕ) → (is_nobody x ≡ true) ⊎ (S x ≡ true) → Each (In S) (upward n t x)
  unfolding upward
  up_each zero x h = tt
  up_each (suc n) x (inl q) = rw q tt
  up_each (suc n) x (inr h) = rw ((w 0).named x h) (h, up_each n (node_at t x).parent ((w 0).up x h))

  -- the path of a leaf in the set lies in the set
  pub path_in : (leaf : ℕ) → S leaf ≡ true → Each (In S) (path t leaf)
  unfolding path
  path_in leaf h = up_each (length t) leaf (inr h)

  pub path_elem : (x leaf : ℕ) → S leaf ≡ true → elem x (path t leaf) ≡ true → S x ≡ true
  path_elem x leaf h k = elem_each (In S) x (path t leaf) k (path_in leaf h)

  below_some : (n x : ℕ) → S x ≡ true → Some (In S) (leaves_below n t x)
  unfolding leaves_below only
  below_some zero x h = rw ((w 0).named x h) (inl h)
  below_some (suc n) x h =
      let c = (node_at t x).children in
      let here : Some (In S) (only x) = rw ((w 0).named x h) (inl h) in
      ⊎_elim (λ q. rw q here) (λ q. cond_both (Some (In S)) (is_leaf c) (only x) _ here (child_some S (leaves_below n t) c (below_some n) q)) ((w (suc x)).down x h (omega arith))

  -- a leaf in the set
  pub leaf_some : Some (In S) (leaves t)
  unfolding leaves
  leaf_some = below_some (length t) 0 (w 0).root

-- a tree that has the set's nodes with their parents, and children as they should be
pub runs_like : (t t' : List Node) (S : ℕ → Bool) (e e' : ℕ) → Runs t S e → length t ≤ length t' → ((x : ℕ) → S x ≡ true → (node_at t' x).parent ≡ (node_at t x).parent) →
    ((x : ℕ) → S x ≡ true → x ≢ e' → Down t' S x) → Runs t' S e'
runs_like t t' S e e' r l p d =
    record { root = r.root; known = λ x h. omega (arith, r.known x h); named = r.named; up = λ x h. rw (p x h) (r.up x h); down = d }

-- a link lets x enter the tree, and then gives y a child
module _ (t : List Node) (y : ℕ) (p : Place) (x : ℕ) where
  link_parent : (z : ℕ) → (node_at (link t y p x) z).parent ≡ (node_at (change t x (placed_below y p)) z).parent
  unfolding link
  link_parent z = change_keeps (λ (n : Node). n.parent) (change t x (placed_below y p)) y (with_child p x) (λ n. refl) z

  link_other : (z : ℕ) → z ≢ y → node_at (link t y p x) z ≡ node_at (change t x (placed_below y p)) z
  unfolding link
  link_other z h = change_other (change t x (placed_below y p)) y z (with_child p x) h

  link_at : y < length t → (node_at (link t y p x) y).children ≡ set_child p x (node_at (change t x (placed_below y p)) y).children
  unfolding link
  link_at h = ap (λ (n : Node). n.children) (change_same (change t x (placed_below y p)) y (with_child p x) (omega (arith, length_change t x (placed_below y p))))

-- a place where a child stands, and the child there
pub record Slot (p : Place) : Type 0 where
  pub child : Children → ℕ
  pub here : (x : ℕ) (c : Children) → child (set_child p x c) ≡ x
  pub counts : (S : ℕ → Bool) (c : Children) → S (child c) ≡ true → Child S c

slot_left : Slot Left
unfolding set_child
slot_left = record { child = λ (c : Children). c.left; here = λ x c. refl; counts = λ S c h. at_left h }

pub slot_middle : Slot Middle
unfolding set_child
slot_middle = record { child = λ (c : Children). c.middle; here = λ x c. refl; counts = λ S c h. at_middle h }

slot_right : Slot Right
unfolding set_child
slot_right = record { child = λ (c : Children). c.right; here = λ x c. refl; counts = λ S c h. at_right h }

-- the set with one more node, or with a chain of them
abbrev pub plus : (ℕ → Bool) → ℕ → ℕ → Bool
plus S c x = eqb x c || S x

abbrev pub adds : (ℕ → Bool) → List ℕ → ℕ → Bool
adds S [] = S
adds S (c ∷ cs) = adds (plus S c) cs

plus_old : (S : ℕ → Bool) (c x : ℕ) → S x ≡ true → plus S c x ≡ true
plus_old S c x h = rw h (or-true (eqb x c))

plus_new : (S : ℕ → Bool) (c : ℕ) → plus S c c ≡ true
plus_new S c = rw (eq-eqb c c refl)

-- what holds of the set and of one more node holds of both together
plus_each : (P : ℕ → Type 0) (S : ℕ → Bool) (c : ℕ) → P c → ((x : ℕ) → x ≢ c → S x ≡ true → P x) → (x : ℕ) → plus S c x ≡ true → P x
plus_each P S c p f = one_or_other (λ x. plus S c x ≡ true → P x) c (λ h. p) (λ x d h. f x d (rw (ne_eqb x c d) at h))

adds_old : (S : ℕ → Bool) (cs : List ℕ) (x : ℕ) → S x ≡ true → adds S cs x ≡ true
adds_old S [] x h = h
adds_old S (c ∷ cs) x h = adds_old (plus S c) cs x (plus_old S c x h)

pub adds_other : (S : ℕ → Bool) (cs : List ℕ) (x : ℕ) → Each (λ y. x ≢ y) cs → adds S cs x ≡ S x
adds_other S [] x h = refl
adds_other S (c ∷ cs) x h = adds_other (plus S c) cs x h.1 ∙ rw (ne_eqb x c h.0)

pub adds_each : (P : ℕ → Type 0) (S : ℕ → Bool) (cs : List ℕ) → ((x : ℕ) → S x ≡ true → P x) → Each P cs → (x : ℕ) → adds S cs x ≡ true → P x
adds_each P S [] f h = f
adds_each P S (c ∷ cs) f h = adds_each P (plus S c) cs (plus_each P S c h.0 (λ x d. f x)) h.1

child_plus : (S : ℕ → Bool) (x : ℕ) (c : Children) → Child S c → Child (plus S x) c
child_plus S x c (at_left q) = at_left (plus_old S x c.left q)
child_plus S x c (at_middle q) = at_middle (plus_old S x c.middle q)
child_plus S x c (at_right q) = at_right (plus_old S x c.right q)

-- one of n nodes that may be taken into the set
abbrev pub New : ℕ → ℕ → Type 0
New n x = (x < n) × (is_nobody x ≡ false)

-- a link to a node of the set takes the linked node into the set
link_in : (S : ℕ → Bool) (t : List Node) (y : ℕ) (p : Place) (x : ℕ) → Slot p → Runs t S y → S y ≡ true → New (length t) x → Whole (link t y p x) (plus S x)
unfolding is_leaf
link_in S t y p x slot r hy hx e =
    let S' = plus S x in
    let t' = link t y p x in
    let f = placed_below y p in
    let n = length_link t y p x in
    record {
      root = plus_old S x 0 r.root;
      known = plus_each (λ z. z < length t') S x (omega (arith, hx.0)) (λ z d h. omega (arith, r.known z h));
      named = plus_each (λ z. is_nobody z ≡ false) S x hx.1 (λ z d. r.named z);
      up = plus_each (Up t' S') S x (inr (rw (link_parent t y p x x, change_same t x f hx.0) (plus_old S x y hy)))
          (λ z d h. rw (link_parent t y p x z, change_other t x z f d) (⊎_map (λ q. q) (plus_old S x (node_at t z).parent) (r.up z h)));
      down = λ z h d. one_or_other (λ v. S' v ≡ true → Down t' S' v) y (λ k. inr (rw (link_at t y p x (r.known y hy)) (slot.counts S' _ (rw (slot.here x _) (plus_new S x)))))
          (λ v k g. plus_each (λ u. u ≢ y → Down t' S' u) S x (λ a. inl (rw (link_other t y p x x a, change_same t x f hx.0)))
          (λ u a b c. rw (link_other t y p x u c, change_other t x u f a) (⊎_map (λ q. q) (child_plus S x (node_at t u).children) (r.down u b c))) v g k) z h;
    }

-- numbers that are new to a sequence are new to any other of its length
new_as : {n m : ℕ} (cs : List ℕ) → m ≡ n → Each (New n) cs → Each (New m) cs
new_as cs e h = subst (λ (k : ℕ). Each (New k) cs) (sym e) h

pub chain_in : (S : ℕ → Bool) (t : List Node) (y : ℕ) (p : Place) (c : ℕ) (cs : List ℕ) → Slot p → Runs t S y → S y ≡ true → Each (New (length t)) (c ∷ cs) →
    Whole (link_chain t y p (c ∷ cs)) (adds S (c ∷ cs))
unfolding link_chain
chain_in S t y p c [] slot r hy h = link_in S t y p c slot r hy h.0
chain_in S t y p c (d ∷ ds) slot r hy h =
    chain_in (plus S c) (link t y p c) c Middle d ds slot_middle (link_in S t y p c slot r hy h.0 c) (plus_new S c) (new_as (d ∷ ds) (length_link t y p c) h.1)

apart : (S : ℕ → Bool) (x z : ℕ) → S z ≡ true → S x ≡ false → z ≢ x
apart S x z h k e = true_false (sym h ∙ ap S e ∙ k)

module _ (S : ℕ → Bool) where
  -- a link of a node that is not in the set, below the excepted node or one that is not in the set
  link_out : (t : List Node) (y : ℕ) (p : Place) (x e : ℕ) → Runs t S e → (y ≡ e) ⊎ (S y ≡ false) → S x ≡ false → Runs (link t y p x) S e
  link_out t y p x e r hy hx =
      let above : (z : ℕ) → S z ≡ true → z ≢ e → z ≢ y = λ z h d k. ⊎_elim (λ q. d (k ∙ q)) (λ q. apart S y z h q k) hy in
      runs_like t (link t y p x) S e e r (omega (arith, length_link t y p x)) (λ z h. rw (link_parent t y p x z, change_other t x z (placed_below y p) (apart S x z h hx)))
      (λ z h d. rw (link_other t y p x z (above z h d), change_other t x z (placed_below y p) (apart S x z h hx)) (r.down z h d))

  chain_out : (t : List Node) (y : ℕ) (p : Place) (e : ℕ) (cs : List ℕ) → Runs t S e → (y ≡ e) ⊎ (S y ≡ false) → Each (Out S) cs → Runs (link_chain t y p cs) S e
  unfolding link_chain
  chain_out t y p e [] r hy h = r
  chain_out t y p e (c ∷ cs) r hy h = chain_out (link t y p c) c Middle e cs (link_out t y p c e r hy h.0) (inr h.0) h.1

  -- with a child in the set after all, no node lacks one
  close : (t : List Node) (e : ℕ) → Runs t S e → Child S (node_at t e).children → Whole t S
  close t e r c e' =
      runs_like t t S e e' r (omega arith) (λ x h. refl) (λ z h d. one_or_other (λ v. S v ≡ true → Down t S v) e (λ k. inr c) (λ v k g. r.down v g k) z h)

-- a chain leaves the children of a node that is neither in it nor above it
chain_children : (t : List Node) (y : ℕ) (p : Place) (z : ℕ) (cs : List ℕ) → z ≢ y → Each (λ x. z ≢ x) cs → (node_at (link_chain t y p cs) z).children ≡ (node_at t z).children
unfolding link_chain
chain_children t y p z [] d h = refl
chain_children t y p z (c ∷ cs) d h =
    chain_children (link t y p c) c Middle z cs h.0 h.1 ∙ ap (λ (n : Node). n.children) (link_other t y p c z d ∙ change_other t c z (placed_below y p) h.0)

-- the node above a chain out of the set has its first node for a child
chain_at : (S : ℕ → Bool) (t : List Node) (y : ℕ) (p : Place) (c : ℕ) (cs : List ℕ) → y < length t → S y ≡ true → Each (Out S) (c ∷ cs) →
    (node_at (link_chain t y p (c ∷ cs)) y).children ≡ set_child p c (node_at t y).children
unfolding link_chain
chain_at S t y p c cs h hy o =
    let d = each_map {Q = λ x. y ≢ x} (λ x. apart S x y hy) (c ∷ cs) o in
    chain_children (link t y p c) c Middle y cs d.0 d.1 ∙ link_at t y p c h ∙ ap (λ (n : Node). set_child p c n.children) (change_other t c y (placed_below y p) d.0)

-- and keeps a child g that stands at another place
stays : (S : ℕ → Bool) (t : List Node) (y : ℕ) (p : Place) (cs : List ℕ) (g : Children → ℕ) → ((x : ℕ) (c : Children) → g (set_child p x c) ≡ g c) →
    y < length t → S y ≡ true → Each (Out S) cs → g (node_at (link_chain t y p cs) y).children ≡ g (node_at t y).children
unfolding link_chain
stays S t y p [] g k h hy o = refl
stays S t y p (c ∷ cs) g k h hy o = ap g (chain_at S t y p c cs h hy o) ∙ k c (node_at t y).children

-- the chain that a set takes of a subtree: one that has a node, or none if the subtree has none
pub data Chain : Subtree → List ℕ → Type 0 where
  no_chain : Chain (with_middle []) []
  left_chain : (c : ℕ) (cs ms rs : List ℕ) → Chain (record { left = c ∷ cs; middle = ms; right = rs }) (c ∷ cs)
  middle_chain : (ls : List ℕ) (c : ℕ) (cs rs : List ℕ) → Chain (record { left = ls; middle = c ∷ cs; right = rs }) (c ∷ cs)
  right_chain : (ls ms : List ℕ) (c : ℕ) (cs : List ℕ) → Chain (record { left = ls; middle = ms; right = c ∷ cs }) (c ∷ cs)

-- what holds of a subtree holds of its chains
parts : (P : ℕ → Type 0) (s : Subtree) → Each P (flat s) → Each P s.left × Each P s.middle × Each P s.right
unfolding flat
parts P s h =
    let r = each_right P s.left (s.middle ++ s.right) h in
    (each_left P s.left (s.middle ++ s.right) h, each_left P s.middle s.right r, each_right P s.middle s.right r)

pub chain_each : (P : ℕ → Type 0) (s : Subtree) (cs : List ℕ) → Chain s cs → Each P (flat s) → Each P cs
chain_each P s cs no_chain h = tt
chain_each P s cs (left_chain c ds ms rs) h = (parts P s h).0
chain_each P s cs (middle_chain ls c ds rs) h = (parts P s h).1
chain_each P s cs (right_chain ls ms c ds) h = (parts P s h).2

-- a chain taken into the set, and two further ones that are not in it, at other places
taken : (S : ℕ → Bool) (t : List Node) (y : ℕ) {p : Place} (slot : Slot p) (c : ℕ) (cs : List ℕ) (q₁ : Place) (m : List ℕ) (q₂ : Place) (r : List ℕ) →
    ((x : ℕ) (a : Children) → slot.child (set_child q₁ x a) ≡ slot.child a) → ((x : ℕ) (a : Children) → slot.child (set_child q₂ x a) ≡ slot.child a) →
    Runs t S y → S y ≡ true → Each (New (length t)) (c ∷ cs) → Each (Out S) (c ∷ cs) → Each (Out (adds S (c ∷ cs))) m → Each (Out (adds S (c ∷ cs))) r →
    Whole (link_chain (link_chain (link_chain t y p (c ∷ cs)) y q₁ m) y q₂ r) (adds S (c ∷ cs))
taken S t y {p} slot c cs q₁ m q₂ r k₁ k₂ w hy n o o₁ o₂ =
    let S₁ = adds S (c ∷ cs) in
    let hy₁ = adds_old S (c ∷ cs) y hy in
    let u = link_chain t y p (c ∷ cs) in
    let one = chain_in S t y p c cs slot w hy n y in
    let two = chain_out S₁ u y q₁ y m one (inl refl) o₁ in
    let child = stays S₁ (link_chain u y q₁ m) y q₂ r slot.child k₂ (two.known y hy₁) hy₁ o₂ ∙ stays S₁ u y q₁ m slot.child k₁ (one.known y hy₁) hy₁ o₁ in
    close S₁ _ y (chain_out S₁ _ y q₂ y r two (inl refl) o₂)
    (slot.counts S₁ _ (rw (child, chain_at S t y p c cs (w.known y hy) hy o, slot.here c (node_at t y).children) (adds_old (plus S c) cs c (plus_new S c))))

-- a subtree below a node of the set: the chain is taken into the set
pub hang_in : (S : ℕ → Bool) (t : List Node) (y : ℕ) (s : Subtree) (cs : List ℕ) → Chain s cs → Whole t S → S y ≡ true → Each (New (length t)) (flat s) →
    Each (Out S) (flat s) → Distinct (flat s) → Whole (append_subtree_on_leaf t y s) (adds S cs)
unfolding append_subtree_on_leaf link_chain flat set_child slot_left slot_middle
hang_in S t y s cs no_chain w hy n o d = w
hang_in S t y s cs (left_chain c ds m r) w hy n o d =
    let off : Each (Out (adds S cs)) (m ++ r) = each_both (λ x a b. adds_other S cs x b ∙ a) (m ++ r) (each_right (Out S) cs (m ++ r) o) (distinct_apart cs (m ++ r) d) in
    taken S t y slot_left c ds Middle m Right r (λ x a. refl) (λ x a. refl) (w y) hy (parts (New (length t)) s n).0 (parts (Out S) s o).0
    (each_left (Out (adds S cs)) m r off) (each_right (Out (adds S cs)) m r off)
hang_in S t y s cs (middle_chain l c ds r) w hy n o d =
    let off = parts (Out S) s o in
    taken S (link_chain t y Left l) y slot_middle c ds Right r Right [] (λ x a. refl) (λ x a. refl) (chain_out S t y Left y l (w y) (inl refl) off.0) hy
    (new_as (c ∷ ds) (length_chain t y Left l) (parts (New (length t)) s n).1) off.1 (each_both (λ x a b. adds_other S cs x b ∙ a) r off.2 (distinct_apart cs r (distinct_right l (cs ++ r) d))) tt
hang_in S t y s cs (right_chain l m c ds) w hy n o d =
    let off = parts (Out S) s o in
    let u = link_chain t y Left l in
    let one = chain_out S u y Middle y m (chain_out S t y Left y l (w y) (inl refl) off.0) (inl refl) off.1 in
    chain_in S _ y Right c ds slot_right one hy (new_as (c ∷ ds) (length_chain u y Middle m ∙ length_chain t y Left l) (parts (New (length t)) s n).2)

-- a subtree out of the set, below a node that is not in it
pub hang_out : (S : ℕ → Bool) (t : List Node) (y : ℕ) (s : Subtree) → Whole t S → S y ≡ false → Each (Out S) (flat s) → Whole (append_subtree_on_leaf t y s) S
unfolding append_subtree_on_leaf
hang_out S t y s w hy o e =
    let off = parts (Out S) s o in
    chain_out S _ y Right e s.right (chain_out S _ y Middle e s.middle (chain_out S t y Left e s.left (w e) (inr hy) off.0) (inr hy) off.1) (inr hy) off.2

-- a chain of the subtree, taken as Chain says, that has P throughout
abbrev pub Side : (ℕ → Type 0) → Subtree → Type 0
Side P s = (cs : List ℕ) × Chain s cs × Each P cs

pub side_map : (P Q : ℕ → Type 0) (s : Subtree) → ((x : ℕ) → P x → Q x) → Side P s → Side Q s
side_map P Q s f k = (k.0, k.1, each_map f k.0 k.2)

-- a chain with a node can be taken
pub left_full : (l m r : List ℕ) → Full l → Chain (record { left = l; middle = m; right = r }) l
left_full [] m r h = absurd h
left_full (c ∷ cs) m r h = left_chain c cs m r

middle_full : (l m r : List ℕ) → Full m → Chain (record { left = l; middle = m; right = r }) m
middle_full l [] r h = absurd h
middle_full l (c ∷ cs) r h = middle_chain l c cs r

pub right_full : (l m r : List ℕ) → Full r → Chain (record { left = l; middle = m; right = r }) r
right_full l m [] h = absurd h
right_full l m (c ∷ cs) h = right_chain l m c cs

pub side_turned : (P : ℕ → Type 0) (s : Subtree) → Side P s → Side P (turned s)
unfolding turned
side_turned P s (cs, no_chain, h) = ([], no_chain, tt)
side_turned P s (cs, left_chain c ds m r, h) = (reverse cs, left_full (reverse cs) (reverse m) (reverse r) (full_reverse cs tt), each_reverse P cs h)
side_turned P s (cs, middle_chain l c ds r, h) = (reverse cs, middle_full (reverse l) (reverse cs) (reverse r) (full_reverse cs tt), each_reverse P cs h)
side_turned P s (cs, right_chain l m c ds, h) = (reverse cs, right_full (reverse l) (reverse m) (reverse cs) (full_reverse cs tt), each_reverse P cs h)
