-- A link keeps the tree a tree; so does a chain of new nodes, and a subtree of them on a leaf.
use mathlib.Core.Path.{◌≡◌, refl, sym, ap, ◌∙◌}
use mathlib.Core.Bool.{true, cond}
use mathlib.Core.List.{List, [], ◌∷◌, ◌++◌, append-nil}
use mathlib.Core.Logic.{◌⊎◌, inl, inr, ⊎_elim, ◌≢◌}
use Prim.Native.Nat.{ℕ, suc, ◌<◌}
use native.Mathlib.Omega.{arith}
use lib.Dec.{eqb}
use borrow.Author.Tests.{eqb-true, eq-eqb, ne_eqb}
use lib.ListN.{length}
use Rattle.definition.specs.Lists.{Each, Distinct}
use Rattle.definition.specs.Records.{nobody, is_nobody}
use Rattle.definition.specs.Tree.{Place, Root, Left, Middle, Right, Unplaced, place_number, Children, Node, childless, node_at, placed_below, set_child, with_child, change, link, link_chain, is_leaf, child_at}
use Rattle.definition.specs.Subtree.{Subtree, flat, append_subtree_on_leaf}
use Rattle.definition.proofs.Basics.Lists.{alike, and_left, and_right, each_map, each_both, each_left, each_right}
use Rattle.definition.proofs.Tree.Nodes.{change_other, change_same, change_keeps, length_change, length_link}
use Rattle.definition.specs.TreeShape.{Spot, spot, spots, placed, In, Out, Child, Parent, Treed, Bare}
use Rattle.definition.proofs.Tree.Shape.{in_range, in_out, root_in}

-- a place where a child can be
abbrev pub Slot : Place → Type 0
Slot p = (placed p ≡ true) × ((x : ℕ) (c : Children) → child_at p (set_child p x c) ≡ x)

-- a child's place is set, and the others are left
at_set : (p q : Place) (x : ℕ) (c : Children) → (child_at q (set_child p x c) ≡ child_at q c) ⊎ ((q ≡ p) × (child_at q (set_child p x c) ≡ x))
unfolding child_at set_child
at_set Root q x c = inl refl
at_set Unplaced q x c = inl refl
at_set Left Root x c = inl refl
at_set Left Left x c = inr (refl, refl)
at_set Left Middle x c = inl refl
at_set Left Right x c = inl refl
at_set Left Unplaced x c = inl refl
at_set Middle Root x c = inl refl
at_set Middle Left x c = inl refl
at_set Middle Middle x c = inr (refl, refl)
at_set Middle Right x c = inl refl
at_set Middle Unplaced x c = inl refl
at_set Right Root x c = inl refl
at_set Right Left x c = inl refl
at_set Right Middle x c = inl refl
at_set Right Right x c = inr (refl, refl)
at_set Right Unplaced x c = inl refl

pub link_other : (t : List Node) (y : ℕ) (p : Place) (x z : ℕ) → z ≢ y → z ≢ x → node_at (link t y p x) z ≡ node_at t z
unfolding link
link_other t y p x z a b = change_other (change t x (placed_below y p)) y z (with_child p x) a ∙ change_other t x z (placed_below y p) b

parent_by : (g : ℕ → Spot) (d : ℕ → ℕ) (z w : ℕ) (q : Place) → (g z).parent ≡ w → (g z).place ≡ q → In g w → child_at q (g w).children ≡ z → d z ≡ suc (d w) → Parent g d z
parent_by g d z w q a b i c e = record { there = rw a i; child = rw (a, b) c; deeper = rw a e }

-- a leaf has every place free
pub bare_room : (p : Place) (c : Children) → is_leaf c ≡ true → child_at p c ≡ nobody
unfolding child_at is_leaf
bare_room Root c e = refl
bare_room Left c e = eqb-true c.left nobody (and_left (is_nobody c.left) _ e)
bare_room Middle c e = eqb-true c.middle nobody (and_left (is_nobody c.middle) _ (and_right (is_nobody c.left) _ e))
bare_room Right c e = eqb-true c.right nobody (and_right (is_nobody c.middle) _ (and_right (is_nobody c.left) _ e))
bare_room Unplaced c e = refl

-- a node that can be placed
abbrev pub Free : List Node → ℕ → Type 0
Free t z = Out (spots t) z × (z < length t) × (z ≢ nobody)

-- y is in the tree, and has no child at p
abbrev pub Room : List Node → ℕ → Place → Type 0
Room t y p = In (spots t) y × (child_at p (node_at t y).children ≡ nobody)

-- a free node x becomes the child of y at a place where there is room
module _ (t : List Node) (r : Treed t) (y : ℕ) (p : Place) (x : ℕ) (slot : Slot p) (room : Room t y p) (free : Free t x) where
  abbrev u : List Node
  u = link t y p x

  differ : (z : ℕ) → In (spots t) z → z ≢ x
  differ z i = in_out (spots t) z x i free.0

  pub link_new : node_at u x ≡ placed_below y p (node_at t x)
  unfolding link
  link_new = change_other (change t x (placed_below y p)) y x (with_child p x) (λ e. differ y room.0 (sym e)) ∙ change_same t x (placed_below y p) free.1

  pub link_at : node_at u y ≡ with_child p x (node_at t y)
  unfolding link
  link_at =
      change_same (change t x (placed_below y p)) y (with_child p x) (rw length_change (in_range t y room.0)) ∙ ap (with_child p x) (change_other t x y (placed_below y p) (differ y room.0))

  keeps : {A : Type 0} (f : Node → A) → ((n : Node) → f (with_child p x n) ≡ f n) → (z : ℕ) → z ≢ x → f (node_at u z) ≡ f (node_at t z)
  unfolding link
  keeps f k z e = change_keeps f (change t x (placed_below y p)) y (with_child p x) k z ∙ ap f (change_other t x z (placed_below y p) e)

  place_keeps : (z : ℕ) → z ≢ x → (node_at u z).place ≡ (node_at t z).place
  place_keeps = keeps (λ (n : Node). n.place) (λ n. refl)

  pub parent_keeps : (z : ℕ) → z ≢ x → (node_at u z).parent ≡ (node_at t z).parent
  parent_keeps = keeps (λ (n : Node). n.parent) (λ n. refl)

  pub in_keeps : (z : ℕ) → In (spots t) z → In (spots u) z
  in_keeps z i = ap placed (place_keeps z (differ z i)) ∙ i

  pub in_new : In (spots u) x
  in_new = ap (λ (n : Node). placed n.place) link_new ∙ slot.0

  kids_keep : (z : ℕ) (q : Place) → (child_at q (node_at u z).children ≡ child_at q (node_at t z).children) ⊎ ((z ≡ y) × (q ≡ p) × (child_at q (node_at u z).children ≡ x))
  kids_keep z q =
      let kid : Node → ℕ = λ n. child_at q n.children in
      ⊎_elim (λ (e : z ≡ x). inl (rw e (ap kid link_new ∙ sym (ap (λ (s : Spot). child_at q s.children) (r.loose x free.0)))))
      (λ (e : z ≢ x). ⊎_elim (λ (d : z ≡ y). rw d (⊎_elim (λ a. inl (ap kid link_at ∙ a)) (λ a. inr (refl, a.0, ap kid link_at ∙ a.1)) (at_set p q x (node_at t y).children)))
      (λ (d : z ≢ y). inl (ap kid (link_other t y p x z d e))) (alike z y)) (alike z x)

  depth' : ℕ → ℕ
  depth' z = cond (eqb z x) (suc (r.depth y)) (r.depth z)

  depth_old : (z : ℕ) → z ≢ x → depth' z ≡ r.depth z
  unfolding depth'
  depth_old z e = rw (ne_eqb z x e)

  depth_new : depth' x ≡ suc (depth' y)
  unfolding depth'
  depth_new = rw (eq-eqb x x refl, ne_eqb y x (differ y room.0))

  link_below : (z : ℕ) (q : Place) → child_at q (node_at u z).children ≢ nobody → Child (spots u) depth' z q (child_at q (node_at u z).children)
  unfolding is_leaf
  link_below z q k =
      ⊎_elim (λ (e : child_at q (node_at u z).children ≡ child_at q (node_at t z).children).
      let c = child_at q (node_at t z).children in
      let old = r.below z q (λ d. k (e ∙ d)) in
      let a = differ c old.there in
      let b : z ≢ x = λ d. k (e ∙ rw d (ap (λ (s : Spot). child_at q s.children) (r.loose x free.0) ∙ bare_room q childless refl)) in
      rw e (record { there = in_keeps c old.there; parent = parent_keeps c a ∙ old.parent; place = place_keeps c a ∙ old.place; deeper = omega (arith, depth_old c a, depth_old z b, old.deeper) }))
      (λ (e : (z ≡ y) × (q ≡ p) × (child_at q (node_at u z).children ≡ x)).
      rw e.2 (record { there = in_new; parent = ap (λ (n : Node). n.parent) link_new ∙ sym e.0; place = ap (λ (n : Node). n.place) link_new ∙ sym e.1; deeper = rw e.0 depth_new }))
      (kids_keep z q)

  link_above : (z : ℕ) → In (spots u) z → z ≢ 0 → Parent (spots u) depth' z
  link_above z i k =
      ⊎_elim (λ (e : z ≡ x).
      rw e (parent_by (spots u) depth' x y p (ap (λ (n : Node). n.parent) link_new) (ap (λ (n : Node). n.place) link_new)
      (in_keeps y room.0) (ap (λ (n : Node). child_at p n.children) link_at ∙ slot.1 x (node_at t y).children) depth_new))
      (λ (e : z ≢ x).
      let j : In (spots t) z = sym (ap placed (place_keeps z e)) ∙ i in
      let a = r.above z j k in
      let w = (node_at t z).parent in
      let q = (node_at t z).place in
      parent_by (spots u) depth' z w q (parent_keeps z e) (place_keeps z e) (in_keeps w a.there)
      (⊎_elim (λ d. d ∙ a.child) (λ (d : (w ≡ y) × (q ≡ p) × (child_at q (node_at u w).children ≡ x)).
      absurd (in_out (spots t) z nobody j r.nobody_out (sym a.child ∙ rw (d.0, d.1) room.1))) (kids_keep w q))
      (omega (arith, a.deeper, depth_old z e, depth_old w (differ w a.there)))) (alike z x)

  pub link_treed : Treed u
  link_treed =
      let root = differ 0 (root_in (spots t) r) in
      record {
        depth = depth';
        root = place_keeps 0 root ∙ r.root;
        orphan = parent_keeps 0 root ∙ r.orphan;
        top = depth_old 0 root ∙ r.top;
        above = link_above;
        below = link_below;
        loose = λ z o.
            let a : z ≢ y = λ e. in_out (spots u) y z (in_keeps y room.0) o (sym e) in
            let k = ap spot (link_other t y p x z a (λ e. in_out (spots u) x z in_new o (sym e))) in
            k ∙ r.loose z (sym (ap (λ (s : Spot). placed s.place) k) ∙ o);
        nobody_out = ap placed (place_keeps nobody (λ e. free.2 (sym e))) ∙ r.nobody_out;
      }

  room_keeps : (z : ℕ) (q : Place) → (z ≡ y → q ≢ p) → Room t z q → Room u z q
  room_keeps z q e k = (in_keeps z k.0, ⊎_elim (λ d. d ∙ k.1) (λ d. absurd (e d.0 d.1)) (kids_keep z q))

  pub room_new : (q : Place) → Room u x q
  unfolding is_leaf
  room_new q = (in_new, ap (λ (n : Node). child_at q n.children) link_new ∙ bare_room q childless refl)

  pub free_keeps : (z : ℕ) → Free t z → z ≢ x → Free u z
  free_keeps z k e = (ap placed (place_keeps z e) ∙ k.0, omega (arith, k.1, length_link t y p x), k.2)

-- there is room below y at each of ps, and the nodes cs can be placed
abbrev pub Ready : List Node → ℕ → List Place → List ℕ → Type 0
Ready t y ps cs = Treed t × Each (Room t y) ps × Each (Free t) cs × Distinct cs

-- a chain leaves the room that it does not take
pub chain_ready : (cs ds : List ℕ) (t : List Node) (y : ℕ) (p : Place) (leaf : ℕ) (ps : List Place) → Slot p → Room t y p → Each (λ q. leaf ≡ y → q ≢ p) ps →
    Ready t leaf ps (cs ++ ds) → Ready (link_chain t y p cs) leaf ps ds
unfolding link_chain child_at set_child placed
chain_ready [] ds t y p leaf ps slot room k r = r
chain_ready (c ∷ cs) ds t y p leaf ps slot room k r =
    let f = r.2.0 in
    chain_ready cs ds (link t y p c) c Middle leaf ps (refl, λ x d. refl) (room_new t r.0 y p c slot room f Middle)
    (each_map {Q = λ q. leaf ≡ c → q ≢ Middle} (λ q (h : Room t leaf q) e. absurd (in_out (spots t) leaf c h.0 f.0 e)) ps r.1) (
      link_treed t r.0 y p c slot room f,
      each_both (room_keeps t r.0 y p c slot room f leaf) ps k r.1,
      each_both (free_keeps t r.0 y p c slot room f) (cs ++ ds) r.2.1 r.3.0,
      r.3.1,
    )

-- a subtree of free nodes is hung on a leaf
pub hang_treed : (t : List Node) (y : ℕ) (s : Subtree) → Treed t → Bare (spots t) y → Each (Free t) (flat s) → Distinct (flat s) → Treed (append_subtree_on_leaf t y s)
unfolding append_subtree_on_leaf flat child_at set_child placed place_number
hang_treed t y s r e f d =
    let room : (p : Place) → Room t y p = λ p. (e.0, bare_room p (node_at t y).children e.1) in
    let a = link_chain t y Left s.left in
    let b = link_chain a y Middle s.middle in
    let r₁ = chain_ready s.left (s.middle ++ s.right) t y Left y (Middle ∷ Right ∷ []) (refl, λ x c. refl) (room Left)
    (λ i q. omega (arith, ap place_number q), (λ i q. omega (arith, ap place_number q), tt)) (r, (room Middle, (room Right, tt)), f, d) in
    let r₂ = chain_ready s.middle s.right a y Middle y (Right ∷ []) (refl, λ x c. refl) r₁.1.0 (λ i q. omega (arith, ap place_number q), tt) (r₁.0, r₁.1.1, r₁.2, r₁.3) in
    (chain_ready s.right [] b y Right y [] (refl, λ x c. refl) r₂.1.0 tt (r₂.0, tt, rw append-nil r₂.2, rw append-nil r₂.3)).0

-- the other nodes stay as they are
chain_other : (cs : List ℕ) (t : List Node) (y : ℕ) (p : Place) (z : ℕ) → z ≢ y → Each (λ c. z ≢ c) cs → node_at (link_chain t y p cs) z ≡ node_at t z
unfolding link_chain
chain_other [] t y p z a h = refl
chain_other (c ∷ cs) t y p z a h = chain_other cs (link t y p c) c Middle z h.0 h.1 ∙ link_other t y p c z a h.0

pub leaf_other : (t : List Node) (y : ℕ) (s : Subtree) (z : ℕ) → z ≢ y → Each (λ c. z ≢ c) (flat s) → node_at (append_subtree_on_leaf t y s) z ≡ node_at t z
unfolding append_subtree_on_leaf flat
leaf_other t y s z a h =
    let k = each_right (λ c. z ≢ c) s.left (s.middle ++ s.right) h in
    let b = link_chain t y Left s.left in
    chain_other s.right (link_chain b y Middle s.middle) y Right z a (each_right (λ c. z ≢ c) s.middle s.right k)
    ∙ chain_other s.middle b y Middle z a (each_left (λ c. z ≢ c) s.middle s.right k)
    ∙ chain_other s.left t y Left z a (each_left (λ c. z ≢ c) s.left (s.middle ++ s.right) h)
