-- The paths of a stored necessity by its spawner, and when a fork reapplies it: just if the spawner and the forking node stand one above the other.
use mathlib.Core.Path.{◌≡◌, refl, sym, ap, ◌∙◌, subst}
use mathlib.Core.Bool.{Bool, true, false, ◌||◌}
use mathlib.Core.List.{List, ◌∷◌, ◌++◌, []}
use mathlib.Core.Logic.{◌⊎◌, inl, inr, ⊎_elim}
use Prim.Native.Nat.{ℕ, zero, suc}
use lib.Dec.{eqb}
use borrow.Author.Tests.{eqb-true}
use lib.ListN.{length}
use Rattle.definition.specs.Lists.{Each, any, elem, filter}
use Rattle.definition.specs.Records.{nobody}
use Rattle.definition.specs.Tree.{Node, Place, Root, Left, Middle, Right, Unplaced, Children, node_at, is_leaf, only, leaves_below, leaves, path, child_at}
use Rattle.definition.specs.Modality.{Necessity, Fork, leaves_of, is_reapplied}
use Rattle.definition.proofs.Basics.Lists.{true_false, either, alike, or_cases, or_true, not_true_false, some_each, some_pick, any_some, elem_each, each_map, each_any, each_filter, Full, some_any, among_filter, same_both}
use Rattle.definition.specs.TreeShape.{spots, In, Out, Treed, Bare}
use Rattle.definition.proofs.Tree.Shape.{alive, in_out, leaves_bare}
use Rattle.definition.proofs.Paths.Pairs.{climbing, path_below, path_root, path_there}
use Rattle.definition.proofs.Paths.Takers.{leaf_by}
use Rattle.definition.proofs.Engine.BelowTarget.{through, through_is, through_out}
use Rattle.definition.proofs.Paths.Marks.{leaf_listed}
use Rattle.definition.specs.Shortcuts.{ThroughSpawner}

filter_like : (p q : ℕ → Bool) (xs : List ℕ) → Each (λ x. p x ≡ q x) xs → filter p xs ≡ filter q xs
filter_like p q [] h = refl
filter_like p q (x ∷ xs) h = rw (h.0, filter_like p q xs h.1)

-- so its paths are known by the spawner
pub spawned_leaves : (t : List Node) → Treed t → (n : Necessity) → ThroughSpawner t n → leaves_of t n ≡ filter (λ leaf. elem n.spawner (path t leaf)) (leaves t)
unfolding leaves_of
spawned_leaves t r n h = filter_like _ _ (leaves t) (each_map h (leaves t) (leaves_bare t r))

-- of two nodes on one path one stands above the other
both_on : (t : List Node) (r : Treed t) (a b : ℕ) (l : ℕ) → In (spots t) l → elem a (path t l) ≡ true → elem b (path t l) ≡ true → (elem a (path t b) ≡ true) ⊎ (elem b (path t a) ≡ true)
both_on t r a b =
    climbing t r (λ l. elem a (path t l) ≡ true → elem b (path t l) ≡ true → (elem a (path t b) ≡ true) ⊎ (elem b (path t a) ≡ true))
    (λ e f. let z = elem_each (λ y. y ≡ 0) b (path t 0) f (rw (path_root t r) (refl, tt)) in inl (rw z e))
    (λ l i j up e f.
    ⊎_elim (λ (q : eqb a l ≡ true). inr (rw (eqb-true a l q) f))
    (λ (e' : elem a (path t (node_at t l).parent) ≡ true).
    ⊎_elim (λ (q : eqb b l ≡ true). inl (rw (eqb-true b l q) e)) (λ f'. up e' f') (or_cases (eqb b l) _ (sym (ap (elem b) (path_below t r l i)) ∙ f)))
    (or_cases (eqb a l) _ (sym (ap (elem a) (path_below t r l i)) ∙ e)))

-- what is on the path of a node is on the path of those below it
on_below : (t : List Node) (r : Treed t) (a b : ℕ) → In (spots t) b → elem a (path t b) ≡ true → (l : ℕ) → In (spots t) l → elem b (path t l) ≡ true → elem a (path t l) ≡ true
on_below t r a b j e =
    climbing t r (λ l. elem b (path t l) ≡ true → elem a (path t l) ≡ true)
    (λ f. let z = elem_each (λ y. y ≡ 0) b (path t 0) f (rw (path_root t r) (refl, tt)) in subst (λ y. elem a (path t y) ≡ true) z e)
    (λ l i k up f.
    ⊎_elim (λ (q : eqb b l ≡ true). subst (λ y. elem a (path t y) ≡ true) (eqb-true b l q) e)
    (λ g. ap (elem a) (path_below t r l i) ∙ or_true (eqb a l) (up g)) (or_cases (eqb b l) _ (sym (ap (elem b) (path_below t r l i)) ∙ f)))

-- some leaf stands at or below every node
module _ (t : List Node) (r : Treed t) where
  full_left : {A : Type 0} (xs ys : List A) → Full xs → Full (xs ++ ys)
  full_left [] ys h = absurd h
  full_left (x ∷ xs) ys h = tt

  full_right : {A : Type 0} (xs ys : List A) → Full ys → Full (xs ++ ys)
  full_right [] ys h = h
  full_right (x ∷ xs) ys h = tt

  below_full : (k x : ℕ) → In (spots t) x → Full (leaves_below k t x)
  unfolding leaves_below only child_at
  below_full zero x i = rw (alive t r x i) tt
  below_full (suc k) x i =
      let c = (node_at t x).children in
      let u = leaves_below k t c.left in
      let v = leaves_below k t c.middle in
      let w = leaves_below k t c.right in
      ⊎_elim (λ (e : is_leaf c ≡ true). rw (e, alive t r x i) tt)
      (λ (e : is_leaf c ≡ false). rw e
      (⊎_elim (λ (a : c.left ≡ nobody).
      ⊎_elim (λ (b : c.middle ≡ nobody).
      ⊎_elim (λ (d : c.right ≡ nobody). true_false (sym (leaf_by c (λ p. none_at c a b d p)) ∙ e)) (λ d. full_right u (v ++ w) (full_right v w (below_full k c.right (r.below x Right d).there))) (alike c.right nobody))
      (λ b. full_right u (v ++ w) (full_left v w (below_full k c.middle (r.below x Middle b).there))) (alike c.middle nobody))
      (λ a. full_left u (v ++ w) (below_full k c.left (r.below x Left a).there)) (alike c.left nobody))) (either (is_leaf c))
    where
      none_at : (c : Children) → c.left ≡ nobody → c.middle ≡ nobody → c.right ≡ nobody → (p : Place) → child_at p c ≡ nobody
      none_at c a b d Root = refl
      none_at c a b d Left = a
      none_at c a b d Middle = b
      none_at c a b d Right = d
      none_at c a b d Unplaced = refl

  leaf_under : (x : ℕ) → In (spots t) x → (l : ℕ) × (Bare (spots t) l × (elem x (path t l) ≡ true))
  leaf_under x i = go (through t r x (leaves t)) (each_filter (Bare (spots t)) (λ l. elem x (path t l)) (leaves t) (leaves_bare t r)) (subst Full (sym (through_is t r x i)) (below_full (length t) x i))
    where
      go : (ls : List ℕ) → Each (λ l. Bare (spots t) l × (elem x (path t l) ≡ true)) ls → Full ls → (l : ℕ) × (Bare (spots t) l × (elem x (path t l) ≡ true))
      go [] h f = absurd f
      go (l ∷ ls) h f = (l, h.0)

  -- a necessity is reapplied just if its spawner and the forking node stand one above the other
  module _ (k : Fork) (n : Necessity) (h : ThroughSpawner t n) where
    paths : is_reapplied t k n ≡ any (λ leaf. elem k.node (path t leaf)) (filter (λ leaf. elem n.spawner (path t leaf)) (leaves t))
    unfolding is_reapplied
    paths = ap (any (λ leaf. elem k.node (path t leaf))) (spawned_leaves t r n h)

    pub reapplied_is : In (spots t) k.node → In (spots t) n.spawner → (elem n.spawner (path t k.node) || elem k.node (path t n.spawner)) ≡ is_reapplied t k n
    reapplied_is i j = sym (paths ∙ same_both _ _ to from)
      where
        x : ℕ
        x = n.spawner

        y : ℕ
        y = k.node

        ls : List ℕ
        ls = filter (λ leaf. elem x (path t leaf)) (leaves t)

        to : any (λ leaf. elem y (path t leaf)) ls ≡ true → (elem x (path t y) || elem y (path t x)) ≡ true
        to e =
            let s = some_pick ls (some_each {R = λ l. (elem y (path t l) ≡ true) × (Bare (spots t) l × (elem x (path t l) ≡ true))} (λ l a b. (a, b)) ls (any_some (λ leaf. elem y (path t leaf)) ls e) (each_filter (Bare (spots t)) (λ leaf. elem x (path t leaf)) (leaves t) (leaves_bare t r))) in
            ⊎_elim (λ a. rw a) (λ a. or_true (elem x (path t y)) a) (both_on t r x y s.0 s.1.1.0.0 s.1.1.1 s.1.0)

        shown : (l : ℕ) → Bare (spots t) l → elem x (path t l) ≡ true → elem y (path t l) ≡ true → any (λ leaf. elem y (path t leaf)) ls ≡ true
        shown l b p q =
            some_any (λ leaf. elem y (path t leaf)) ls
            (some_each {R = λ z. elem y (path t z) ≡ true} (λ z (e : z ≡ l) (u : Unit {0}). rw e q) ls (among_filter (λ leaf. elem x (path t leaf)) l (leaves t) p (leaf_listed t r l b)) (each_any (λ z. Unit {0}) (λ z. tt) ls))

        from : (elem x (path t y) || elem y (path t x)) ≡ true → any (λ leaf. elem y (path t leaf)) ls ≡ true
        from e =
            ⊎_elim (λ (a : elem x (path t y) ≡ true). let u = leaf_under y i in shown u.0 u.1.0 (on_below t r x y i a u.0 u.1.0.0 u.1.1) u.1.1)
            (λ (a : elem y (path t x) ≡ true). let u = leaf_under x j in shown u.0 u.1.0 u.1.1 (on_below t r y x j a u.0 u.1.0.0 u.1.1)) (or_cases (elem x (path t y)) (elem y (path t x)) e)

    pub reapplied_out : Out (spots t) n.spawner → false ≡ is_reapplied t k n
    unfolding is_reapplied
    reapplied_out o = sym (ap (any (λ leaf. elem k.node (path t leaf))) (spawned_leaves t r n h ∙ through_out t r n.spawner o))

    pub reapplied_loose : Out (spots t) k.node → false ≡ is_reapplied t k n
    reapplied_loose o = sym (paths ∙ not_true_false _ (λ e.
        let ls = filter (λ leaf. elem n.spawner (path t leaf)) (leaves t) in
        let s = some_pick ls (some_each {R = λ l. (elem k.node (path t l) ≡ true) × (Bare (spots t) l × (elem n.spawner (path t l) ≡ true))} (λ l a b. (a, b)) ls (any_some (λ leaf. elem k.node (path t leaf)) ls e) (each_filter (Bare (spots t)) (λ leaf. elem n.spawner (path t leaf)) (leaves t) (leaves_bare t r))) in
        in_out (spots t) k.node k.node (elem_each (In (spots t)) k.node (path t s.0) s.1.0 (path_there t r s.0 s.1.1.0.0)) o refl))
