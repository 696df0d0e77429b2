-- The leaves that take what goes below a target are found by a walk down from it, which leaves out what stands at and below contradictory nodes.
use mathlib.Core.Path.{◌≡◌, refl, sym, ap, ap₂, ◌∙◌, subst}
use mathlib.Core.Bool.{Bool, true, false, cond, not, ◌&&◌, ◌||◌}
use mathlib.Core.List.{List, [], ◌∷◌, ◌++◌, append-nil, append_assoc}
use mathlib.Core.Logic.{⊎_elim, ◌≢◌}
use Prim.Native.Nat.{ℕ, zero, suc, ◌<◌, ◌≤◌, ◌-◌}
use native.Mathlib.Omega.{arith}
use lib.Dec.{eqb}
use borrow.Author.Tests.{eqb-true}
use lib.ListN.{length}
use Rattle.definition.specs.Lists.{Each, any, elem, filter}
use Rattle.definition.specs.Records.{nobody}
use Rattle.definition.specs.Tree.{Place, Root, Left, Middle, Right, Unplaced, place_number, Node, node_at, is_contradictory, is_leaf, only, leaves_below, leaves, path, child_at}
use Rattle.definition.specs.Subtree.{takes}
use Rattle.definition.proofs.Basics.Lists.{true_false, either, alike, or_cases, or_true, or_right, not_true_false, cond_both, each_map, each_append, filter_append, elem_each}
use Rattle.definition.specs.TreeShape.{spots, In, Out, Child, Treed, Bare}
use Rattle.definition.proofs.Tree.Shape.{in_out, root_in, alive, leaves_nobody, leaves_in, leaves_from, leaves_bare, kid}
use Rattle.definition.proofs.Tree.Linking.{bare_room}
use Rattle.definition.proofs.Paths.Pairs.{climbing, path_below, path_root, path_there, elem_self}
use Rattle.definition.proofs.Paths.Takers.{closed}
use Rattle.definition.specs.Shortcuts.{open_below}

-- ---- filters
module _ {A : Type 0} (p : A → Bool) where
  filter_none : (xs : List A) → Each (λ x. p x ≡ false) xs → filter p xs ≡ []
  filter_none [] h = refl
  filter_none (x ∷ xs) h = rw (h.0, filter_none xs h.1)

  filter_all : (xs : List A) → Each (λ x. p x ≡ true) xs → filter p xs ≡ xs
  filter_all [] h = refl
  filter_all (x ∷ xs) h = rw (h.0, filter_all xs h.1)

  -- two tests one after the other
  filter_and : (q : A → Bool) (xs : List A) → filter (λ x. p x && q x) xs ≡ filter q (filter p xs)
  filter_and q [] = refl
  filter_and q (x ∷ xs) = ap (λ (l : List A). cond (p x && q x) (x ∷ l) l) (filter_and q xs) ∙ go (p x)
    where
      go : (b : Bool) → cond (b && q x) (x ∷ filter q (filter p xs)) (filter q (filter p xs)) ≡ filter q (cond b (x ∷ filter p xs) (filter p xs))
      go true = refl
      go false = refl

  -- a test that the first implies
  filter_through : (q : A → Bool) (xs : List A) → Each (λ x. p x ≡ true → q x ≡ true) xs → filter p xs ≡ filter p (filter q xs)
  filter_through q [] h = refl
  filter_through q (x ∷ xs) h = ap (λ (l : List A). cond (p x) (x ∷ l) l) (filter_through q xs h.1) ∙ go (q x) h.0
    where
      go : (b : Bool) → (p x ≡ true → b ≡ true) → cond (p x) (x ∷ filter p (filter q xs)) (filter p (filter q xs)) ≡ filter p (cond b (x ∷ filter q xs) (filter q xs))
      go true k = refl
      go false k = ap (λ (c : Bool). cond c (x ∷ filter p (filter q xs)) (filter p (filter q xs))) (not_true_false (p x) (λ e. true_false (sym (k e))))

any_append : {A : Type 0} (p : A → Bool) (xs ys : List A) → any p ys ≡ true → any p (xs ++ ys) ≡ true
any_append p [] ys h = h
any_append p (x ∷ xs) ys h = or_true (p x) (any_append p xs ys h)

elem_not : (x : ℕ) (xs : List ℕ) → Each (λ y. y ≢ x) xs → elem x xs ≡ false
elem_not x xs h = not_true_false (elem x xs) (λ e. elem_each (λ y. y ≢ x) x xs e h refl)

module _ (t : List Node) (r : Treed t) where
  -- the path of l goes through x
  record Under (x l : ℕ) : Type 0 where
    there : In (spots t) l
    lower : List ℕ
    deeper : Each (λ z. r.depth x < r.depth z) lower
    is : path t l ≡ lower ++ path t x

  under_self : (x : ℕ) → In (spots t) x → Under x x
  under_self x i = record { there = i; lower = []; deeper = tt; is = refl }

  under_child : (x : ℕ) (p : Place) (c : ℕ) → Child (spots t) r.depth x p c → (l : ℕ) → Under c l → Under x l
  under_child x p c k l u =
      record {
        there = u.there;
        lower = u.lower ++ (c ∷ []);
        deeper = each_append (λ z. r.depth x < r.depth z) u.lower (c ∷ []) (each_map (λ z (h : r.depth c < r.depth z). omega (arith, h, k.deeper)) u.lower u.deeper) (omega (arith, k.deeper), tt);
        is = u.is ∙ ap (λ (ys : List ℕ). u.lower ++ ys) (path_below t r c k.there ∙ ap (λ (y : ℕ). c ∷ path t y) k.parent) ∙ sym (append_assoc u.lower (c ∷ []) (path t x));
      }

  -- what holds of nobody and of each child
  kids : (P : ℕ → Type 0) → P nobody → (x : ℕ) (p : Place) → (Child (spots t) r.depth x p (kid t r x p) → P (kid t r x p)) → P (kid t r x p)
  unfolding kid
  kids P none x p f = ⊎_elim (λ e. subst P (sym e) none) (λ e. f (r.below x p e)) (alike (kid t r x p) nobody)

  -- each leaf below x is under it, whatever the bound
  under : (k x : ℕ) → In (spots t) x → Each (Under x) (leaves_below k t x)
  unfolding leaves_below only
  under zero x i = rw (alive t r x i) (under_self x i, tt)
  under (suc k) x i =
      let e : suc k - 1 ≡ k = omega arith in
      let below : (p : Place) → Each (Under x) (leaves_below k t (kid t r x p)) = λ p.
      kids (λ c. Each (Under x) (leaves_below k t c)) (rw (leaves_nobody t r k) tt) x p (λ c. each_map (under_child x p (kid t r x p) c) (leaves_below k t (kid t r x p)) (under k (kid t r x p) c.there)) in
      rw (leaves_in t r (suc k) x i (omega arith), e)
      (cond_both (Each (Under x)) (is_leaf (node_at t x).children) (x ∷ []) _ (under_self x i, tt)
      (each_append (Under x) (leaves_below k t (kid t r x Left)) _ (below Left) (each_append (Under x) (leaves_below k t (kid t r x Middle)) _ (below Middle) (below Right))))

  -- ---- contradictory nodes
  closed_node : (x : ℕ) → In (spots t) x → closed t x ≡ (is_contradictory (node_at t x) || closed t (node_at t x).parent)
  closed_node x i = ap (any (λ z. is_contradictory (node_at t z))) (path_below t r x i)

  -- below the end of a closed path no path is open
  under_closed : (k x : ℕ) → In (spots t) x → closed t x ≡ true → filter (λ l. not (closed t l)) (leaves_below k t x) ≡ []
  under_closed k x i h =
      let marked : ℕ → Bool = λ z. is_contradictory (node_at t z) in
      filter_none (λ l. not (closed t l)) (leaves_below k t x)
      (each_map (λ l (u : Under x l). ap not (ap (any marked) u.is ∙ any_append marked u.lower (path t x) h)) (leaves_below k t x) (under k x i))

  unmarked : (x : ℕ) → In (spots t) x → is_contradictory (node_at t x) ≡ false → closed t (node_at t x).parent ≡ false → closed t x ≡ false
  unmarked x i m h = closed_node x i ∙ rw (m, h)

  abbrev opened : ℕ → ℕ → List ℕ
  opened k x = filter (λ l. not (closed t l)) (leaves_below k t x)

  open_end : (x : ℕ) → In (spots t) x → closed t (node_at t x).parent ≡ false → opened 0 x ≡ open_below 0 t x
  unfolding open_below leaves_below only
  open_end x i h =
      ⊎_elim (λ (m : is_contradictory (node_at t x) ≡ true). let c : closed t x ≡ true = closed_node x i ∙ rw m refl in rw (alive t r x i, c, m))
      (λ m. rw (alive t r x i, unmarked x i m h, m)) (either (is_contradictory (node_at t x)))

  open_node : (k x : ℕ) → In (spots t) x → closed t (node_at t x).parent ≡ false → (closed t x ≡ false → (p : Place) → opened k (kid t r x p) ≡ open_below k t (kid t r x p)) → opened (suc k) x ≡ open_below (suc k) t x
  unfolding open_below kid child_at
  open_node k x i h f =
      ⊎_elim (λ (m : is_contradictory (node_at t x) ≡ true). under_closed (suc k) x i (closed_node x i ∙ rw m refl) ∙ rw (alive t r x i, m))
      (λ (m : is_contradictory (node_at t x) ≡ false).
      let c = unmarked x i m h in
      let q : ℕ → Bool = λ l. not (closed t l) in
      let u = leaves_below k t (kid t r x Left) in
      let v = leaves_below k t (kid t r x Middle) in
      let w = leaves_below k t (kid t r x Right) in
      let e : suc k - 1 ≡ k = omega arith in
      ap (filter q) (leaves_in t r (suc k) x i (omega arith))
      ∙ ⊎_elim (λ (b : is_leaf (node_at t x).children ≡ true). rw (b, c, alive t r x i, m))
      (λ (b : is_leaf (node_at t x).children ≡ false).
      rw (b, e, alive t r x i, m) (filter_append q u (v ++ w) ∙ ap₂ ◌++◌ (f c Left) (filter_append q v w ∙ ap₂ ◌++◌ (f c Middle) (f c Right)))) (either (is_leaf (node_at t x).children)))
      (either (is_contradictory (node_at t x)))

  open_nobody : (k : ℕ) → open_below k t nobody ≡ []
  unfolding open_below
  open_nobody zero = refl
  open_nobody (suc k) = refl

  -- the walk finds the leaves below x whose paths are open, where the path above x is
  open_is : (k x : ℕ) → In (spots t) x → closed t (node_at t x).parent ≡ false → opened k x ≡ open_below k t x
  open_is zero x i h = open_end x i h
  open_is (suc k) x i h =
      open_node k x i h
      (λ c p.
      kids (λ y. opened k y ≡ open_below k t y) (ap (filter (λ l. not (closed t l))) (leaves_nobody t r k) ∙ sym (open_nobody k)) x p
      (λ d. open_is k (kid t r x p) d.there (ap (closed t) d.parent ∙ c)))

  -- ---- the leaves whose paths go through a node are those below it
  -- a node that has a parent is not the root
  inner : (x : ℕ) → In (spots t) (node_at t x).parent → x ≢ 0
  inner x j e = in_out (spots t) (node_at t x).parent nobody j r.nobody_out (ap (λ (z : ℕ). (node_at t z).parent) e ∙ r.orphan)

  path_depth : (x : ℕ) → In (spots t) x → Each (λ z. r.depth z ≤ r.depth x) (path t x)
  path_depth =
      climbing t r (λ x. Each (λ z. r.depth z ≤ r.depth x) (path t x)) (rw (path_root t r) (omega arith, tt))
      (λ x i j up.
      let d = (r.above x i (inner x j)).deeper in
      rw (path_below t r x i) (omega arith, each_map (λ z (h : r.depth z ≤ r.depth (node_at t x).parent). omega (arith, h, d)) (path t (node_at t x).parent) up))

  -- a path that holds a node holds its parent
  elem_parent : (c : ℕ) → In (spots t) (node_at t c).parent → (l : ℕ) → In (spots t) l → elem c (path t l) ≡ true → elem (node_at t c).parent (path t l) ≡ true
  elem_parent c j =
      climbing t r (λ l. elem c (path t l) ≡ true → elem (node_at t c).parent (path t l) ≡ true)
      (λ e. absurd (inner c j (elem_each (λ y. y ≡ 0) c (path t 0) e (rw (path_root t r) (refl, tt)))))
      (λ x i k up e.
      let a = (node_at t c).parent in
      let b = (node_at t x).parent in
      ap (elem a) (path_below t r x i)
      ∙ or_true (eqb a x)
      (⊎_elim (λ q. subst (λ (y : ℕ). elem y (path t b) ≡ true) (sym (ap (λ (z : ℕ). (node_at t z).parent) (eqb-true c x q))) (elem_self t r b k)) up
      (or_cases (eqb c x) (elem c (path t b)) (sym (ap (elem c) (path_below t r x i)) ∙ e))))

  abbrev pub through : ℕ → List ℕ → List ℕ
  through g = filter (λ l. elem g (path t l))

  -- every path of a leaf below x goes through x
  through_own : (k x : ℕ) → In (spots t) x → through x (leaves_below k t x) ≡ leaves_below k t x
  through_own k x i =
      filter_all (λ l. elem x (path t l)) (leaves_below k t x)
      (each_map (λ l (u : Under x l). ap (elem x) u.is ∙ any_append (eqb x) u.lower (path t x) (elem_self t r x i)) (leaves_below k t x) (under k x i))

  -- and none through another child of its parent
  through_other : (k a c : ℕ) (p : Place) → In (spots t) a → r.depth c ≡ suc (r.depth a) → (node_at t c).place ≢ p → through c (leaves_below k t (kid t r a p)) ≡ []
  through_other k a c p j deep ne =
      kids (λ y. through c (leaves_below k t y) ≡ []) (ap (through c) (leaves_nobody t r k)) a p
      (λ d.
      let b = kid t r a p in
      let off : (l : ℕ) → Under b l → Each (λ z. z ≢ c) (path t l) = λ l u.
      rw u.is
      (each_append (λ z. z ≢ c) u.lower (path t b)
      (each_map {Q = λ z. z ≢ c} (λ z (h : r.depth b < r.depth z) (e : z ≡ c). omega (arith, h, d.deeper, deep, ap r.depth e)) u.lower u.deeper)
      (rw (path_below t r b d.there, d.parent)
      (λ e. ne (sym (ap (λ (z : ℕ). (node_at t z).place) e) ∙ d.place), each_map {Q = λ z. z ≢ c} (λ z (h : r.depth z ≤ r.depth a) (e : z ≡ c). omega (arith, h, deep, ap r.depth e)) (path t a) (path_depth a j)))) in
      filter_none (λ l. elem c (path t l)) (leaves_below k t b) (each_map (λ l u. elem_not c (path t l) (off l u)) (leaves_below k t b) (under k b d.there)))

  through_child : (k a c : ℕ) → In (spots t) a → In (spots t) c → r.depth c ≡ suc (r.depth a) → (p : Place) → (node_at t c).place ≡ p → kid t r a p ≡ c →
      through c (leaves_below k t (kid t r a Left)) ++ (through c (leaves_below k t (kid t r a Middle)) ++ through c (leaves_below k t (kid t r a Right))) ≡ leaves_below k t c
  unfolding kid child_at place_number
  through_child k a c j i deep p at q = go p at q
    where
      own : (p : Place) → kid t r a p ≡ c → through c (leaves_below k t (kid t r a p)) ≡ leaves_below k t c
      own p q = ap (λ (y : ℕ). through c (leaves_below k t y)) q ∙ through_own k c i

      other : (p : Place) → (node_at t c).place ≢ p → through c (leaves_below k t (kid t r a p)) ≡ []
      other p ne = through_other k a c p j deep ne

      go : (p : Place) → (node_at t c).place ≡ p → kid t r a p ≡ c →
          through c (leaves_below k t (kid t r a Left)) ++ (through c (leaves_below k t (kid t r a Middle)) ++ through c (leaves_below k t (kid t r a Right))) ≡ leaves_below k t c
      go Root at q = absurd (in_out (spots t) c nobody i r.nobody_out (sym q))
      go Left at q =
          ap₂ ◌++◌ (own Left q) (ap₂ ◌++◌ (other Middle (λ e. omega (arith, ap place_number (sym at ∙ e)))) (other Right (λ e. omega (arith, ap place_number (sym at ∙ e))))) ∙ append-nil (leaves_below k t c)
      go Middle at q =
          ap₂ ◌++◌ (other Left (λ e. omega (arith, ap place_number (sym at ∙ e)))) (ap₂ ◌++◌ (own Middle q) (other Right (λ e. omega (arith, ap place_number (sym at ∙ e))))) ∙ append-nil (leaves_below k t c)
      go Right at q =
          ap₂ ◌++◌ (other Left (λ e. omega (arith, ap place_number (sym at ∙ e)))) (ap₂ ◌++◌ (other Middle (λ e. omega (arith, ap place_number (sym at ∙ e)))) (own Right q))
      go Unplaced at q = absurd (in_out (spots t) c nobody i r.nobody_out (sym q))

  pub through_is : (g : ℕ) → In (spots t) g → through g (leaves t) ≡ leaves_below (length t) t g
  unfolding leaves kid
  through_is =
      climbing t r (λ g. through g (leaves t) ≡ leaves_below (length t) t g) (through_own (length t) 0 (root_in (spots t) r))
      (λ x i j up.
      let a = (node_at t x).parent in
      let n = length t in
      let above = r.above x i (inner x j) in
      let has : is_leaf (node_at t a).children ≡ false = not_true_false _ (λ b. in_out (spots t) x nobody i r.nobody_out (sym above.child ∙ bare_room (node_at t x).place (node_at t a).children b)) in
      let u = leaves_below n t (kid t r a Left) in
      let v = leaves_below n t (kid t r a Middle) in
      let w = leaves_below n t (kid t r a Right) in
      let e : suc n - 1 ≡ n = omega arith in
      let split : leaves_below (suc n) t a ≡ u ++ (v ++ w) = leaves_in t r (suc n) a j (omega arith) ∙ rw (has, e) refl in
      let on : ℕ → Bool = λ l. elem x (path t l) in
      filter_through on (λ l. elem a (path t l)) (leaves t) (each_map (λ l (b : Bare (spots t) l). elem_parent x j l b.0) (leaves t) (leaves_bare t r))
      ∙ ap (through x) (up ∙ sym (leaves_from t r (suc n) a j (omega arith)) ∙ split)
      ∙ filter_append on u (v ++ w) ∙ ap (λ (ys : List ℕ). filter on u ++ ys) (filter_append on v w)
      ∙ through_child n a x j i above.deeper (node_at t x).place refl above.child)

  pub through_out : (g : ℕ) → Out (spots t) g → through g (leaves t) ≡ []
  through_out g o =
      filter_none (λ l. elem g (path t l)) (leaves t)
      (each_map (λ l (b : Bare (spots t) l). elem_not g (path t l) (each_map (λ y j. in_out (spots t) y g j o) (path t l) (path_there t r l b.0))) (leaves t) (leaves_bare t r))

  -- ---- the leaves that take what goes below the target
  takers_are : (g : ℕ) → In (spots t) g → filter (takes t g) (leaves t) ≡ opened (length t) g
  unfolding takes
  takers_are g i = filter_and (λ l. elem g (path t l)) (λ l. not (closed t l)) (leaves t) ∙ ap (filter (λ l. not (closed t l))) (through_is g i)

  -- none, where the target is not in the tree
  pub takers_out : (g : ℕ) → Out (spots t) g → filter (takes t g) (leaves t) ≡ []
  unfolding takes
  takers_out g o =
      filter_none (takes t g) (leaves t)
      (each_map (λ l (b : Bare (spots t) l).
      ap (λ (c : Bool). c && not (closed t l)) (elem_not g (path t l) (each_map (λ y j. in_out (spots t) y g j o) (path t l) (path_there t r l b.0)))) (leaves t) (leaves_bare t r))

  -- none, where its path is closed
  pub takers_closed : (g : ℕ) → In (spots t) g → closed t g ≡ true → filter (takes t g) (leaves t) ≡ []
  takers_closed g i h = takers_are g i ∙ under_closed (length t) g i h

  -- else those that the walk from the target finds
  pub takers_below : (g : ℕ) → In (spots t) g → closed t g ≡ false → filter (takes t g) (leaves t) ≡ open_below (length t) t g
  takers_below g i h = takers_are g i ∙ open_is (length t) g i (or_right (is_contradictory (node_at t g)) _ (sym (closed_node g i) ∙ h))
