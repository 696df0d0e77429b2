-- The tree is a tree: parents and children agree, and depths rise by one. So no bound of depth decides a path or the leaves, and each leaf is met once.
use mathlib.Core.Path.{◌≡◌, refl, sym, ap, ap₂, ◌∙◌}
use mathlib.Core.Bool.{true, false, cond}
use mathlib.Core.List.{List, [], ◌∷◌, ◌++◌}
use mathlib.Core.Logic.{◌⊎◌, inl, inr, ⊎_elim, ◌≢◌}
use Prim.Native.Nat.{ℕ, zero, suc, ◌<◌, ◌≤◌, ◌+◌, ◌-◌}
use native.Mathlib.Omega.{arith}
use lib.Dec.{ltb}
use borrow.Author.Tests.{ltb-true, ltb-false, ne_eqb}
use lib.ListN.{length, get_or-eq_default}
use Rattle.definition.specs.Lists.{Each, Distinct}
use Rattle.definition.specs.Records.{nobody, is_nobody}
use Rattle.definition.specs.Tree.{Place, Left, Middle, Right, place_number, Node, node_at, is_leaf, only, leaves_below, upward, leaves, path, child_at}
use Rattle.definition.proofs.Basics.Lists.{true_false, either, alike, each_map, each_append}
use Rattle.definition.proofs.Tree.Nodes.{blank}
use Rattle.definition.proofs.Basics.Identifiers.{Apart, distinct_append, apart_by, pigeonhole}
use Rattle.definition.specs.TreeShape.{Spot, spots, placed, In, Out, Child, Tree, Bare, Treed}

pub in_range : (t : List Node) (x : ℕ) → In (spots t) x → x < length t
unfolding placed
in_range t x i =
    ⊎_elim (ltb-true x (length t))
    (λ (q : ltb x (length t) ≡ false). true_false (sym i ∙ ap (λ (n : Node). placed n.place) (get_or-eq_default t blank {n = x} (ltb-false x (length t) q))))
    (either (ltb x (length t)))

-- a node that is in the tree is none that is not
pub in_out : (g : ℕ → Spot) (x y : ℕ) → In g x → Out g y → x ≢ y
in_out g x y i o e = true_false (sym i ∙ ap (λ (z : ℕ). placed (g z).place) e ∙ o)

pub root_in : (g : ℕ → Spot) → Tree g → In g 0
unfolding placed
root_in g r = ap placed r.root

-- a parent is nobody or in the tree
pub parent_in : (g : ℕ → Spot) → Tree g → (x : ℕ) → ((g x).parent ≡ nobody) ⊎ In g (g x).parent
parent_in g r x =
    ⊎_elim (λ (i : In g x). ⊎_elim (λ (e : x ≡ 0). inl (rw e r.orphan)) (λ e. inr (r.above x i e).there) (alike x 0))
    (λ (o : Out g x). inl (ap (λ (s : Spot). s.parent) (r.loose x o))) (either (placed (g x).place))

module _ (t : List Node) (r : Treed t) where
  pub alive : (x : ℕ) → In (spots t) x → is_nobody x ≡ false
  alive x i = ne_eqb x nobody (in_out (spots t) x nobody i r.nobody_out)

  upward_nobody : (k : ℕ) → upward k t nobody ≡ []
  unfolding upward
  upward_nobody zero = refl
  upward_nobody (suc k) = refl

  upward_in : (k x : ℕ) → In (spots t) x → 0 < k → upward k t x ≡ x ∷ upward (k - 1) t (node_at t x).parent
  unfolding upward
  upward_in zero x i l = absurd (omega arith)
  upward_in (suc k) x i l = let e : suc k - 1 ≡ k = omega arith in rw (e, alive x i)

  -- the way up from x: distinct nodes, one of each depth up to n, whatever the bound
  climb : (n x : ℕ) → In (spots t) x → r.depth x ≡ n →
      (ys : List ℕ) × Distinct ys × Each (λ z. (z < length t) × (r.depth z ≤ n)) ys × (length ys ≡ suc n) × ((k : ℕ) → n < k → upward k t x ≡ ys)
  climb zero x i e =
      let top : (node_at t x).parent ≡ nobody = ⊎_elim (λ (q : x ≡ 0). rw q r.orphan) (λ (q : x ≢ 0). absurd (omega (arith, e, (r.above x i q).deeper))) (alike x 0) in
      (x ∷ [], (tt, tt), ((in_range t x i, omega (arith, e)), tt), refl, λ k l. upward_in k x i l ∙ rw (top, upward_nobody (k - 1)))
  climb (suc n) x i e =
      let a = r.above x i (λ q. omega (arith, e, r.top, ap r.depth q)) in
      let c = climb n (node_at t x).parent a.there (omega (arith, e, a.deeper)) in (
        x ∷ c.0,
        (each_map {Q = λ z. z ≢ x} (λ z (h : (z < length t) × (r.depth z ≤ n)) (q : z ≡ x). omega (arith, h.1, e, ap r.depth q)) c.0 c.2, c.1),
        ((in_range t x i, omega (arith, e)), each_map (λ z (h : (z < length t) × (r.depth z ≤ n)). (h.0, omega (arith, h.1))) c.0 c.2),
        ap suc c.3,
        λ k l. upward_in k x i (omega arith) ∙ ap (λ (ys : List ℕ). x ∷ ys) (c.4 (k - 1) (omega arith)),
      )

  pub depth_low : (x : ℕ) → In (spots t) x → r.depth x < length t
  depth_low x i =
      let c = climb (r.depth x) x i refl in
      omega (arith, c.3, pigeonhole (length t) c.0 c.1 (each_map (λ z (h : (z < length t) × (r.depth z ≤ r.depth x)). h.0) c.0 c.2))

  -- the bound of depth does not decide a path
  pub path_more : (k x : ℕ) → In (spots t) x → length t ≤ k → upward k t x ≡ path t x
  unfolding path
  path_more k x i l = let c = climb (r.depth x) x i refl in c.4 k (omega (arith, depth_low x i)) ∙ sym (c.4 (length t) (depth_low x i))

  -- a path is made of distinct nodes
  pub path_distinct : (x : ℕ) → In (spots t) x → Distinct (path t x) × Each (λ z. z < length t) (path t x)
  unfolding path
  path_distinct x i =
      let c = climb (r.depth x) x i refl in
      rw (c.4 (length t) (depth_low x i)) (c.1, each_map (λ z (h : (z < length t) × (r.depth z ≤ r.depth x)). h.0) c.0 c.2)

  up : ℕ → ℕ → ℕ
  up zero x = x
  up (suc n) x = (node_at t (up n x)).parent

  -- l is a leaf below x
  record Found (x l : ℕ) : Type 0 where
    start : In (spots t) x
    bare : Bare (spots t) l
    steps : ℕ
    arrives : up steps l ≡ x
    depths : r.depth l ≡ steps + r.depth x

  -- n is enough to walk from x
  abbrev Walked : ℕ → ℕ → Type 0
  Walked n x = (ls : List ℕ) × Distinct ls × Each (Found x) ls × ((k : ℕ) → n ≤ k → leaves_below k t x ≡ ls)

  -- the child of x at p
  unfoldable pub kid : ℕ → Place → ℕ
  kid x p = child_at p (node_at t x).children

  found_kid : (x : ℕ) (p : Place) (l : ℕ) → Found (kid x p) l → Child (spots t) r.depth x p (kid x p)
  unfolding kid
  found_kid x p l f = r.below x p (in_out (spots t) (kid x p) nobody f.start r.nobody_out)

  found_above : (x : ℕ) (p : Place) → In (spots t) x → (l : ℕ) → Found (kid x p) l → Found x l
  unfolding up
  found_above x p i l f =
      let k = found_kid x p l f in
      record { start = i; bare = f.bare; steps = suc f.steps; arrives = ap (λ (z : ℕ). (node_at t z).parent) f.arrives ∙ k.parent; depths = omega (arith, f.depths, k.deeper) }

  found_apart : (x : ℕ) (p q : Place) → p ≢ q → (l m : ℕ) → Found (kid x p) l → Found (kid x q) m → m ≢ l
  found_apart x p q ne l m f g e =
      let a = found_kid x p l f in
      let b = found_kid x q m g in
      let s : f.steps ≡ g.steps = omega (arith, f.depths, g.depths, a.deeper, b.deeper, ap r.depth e) in
      ne (sym a.place ∙ ap (λ (z : ℕ). (node_at t z).place) (sym f.arrives ∙ ap₂ up s (sym e) ∙ g.arrives) ∙ b.place)

  pub leaves_nobody : (k : ℕ) → leaves_below k t nobody ≡ []
  unfolding leaves_below only is_leaf
  leaves_nobody zero = refl
  leaves_nobody (suc k) = rw (ap (λ (s : Spot). s.children) (r.loose nobody r.nobody_out))

  pub leaves_in : (k x : ℕ) → In (spots t) x → 0 < k →
      leaves_below k t x ≡
      cond (is_leaf (node_at t x).children) (x ∷ []) (leaves_below (k - 1) t (kid x Left) ++ (leaves_below (k - 1) t (kid x Middle) ++ leaves_below (k - 1) t (kid x Right)))
  unfolding leaves_below only kid child_at
  leaves_in zero x i l = absurd (omega arith)
  leaves_in (suc k) x i l = let e : suc k - 1 ≡ k = omega arith in rw (e, alive x i)

  walk_on : (n x : ℕ) → In (spots t) x → is_leaf (node_at t x).children ≡ false → ((p : Place) → Walked n (kid x p)) → Walked (suc n) x
  unfolding place_number
  walk_on n x i e w = (
    (w Left).0 ++ ((w Middle).0 ++ (w Right).0),
    distinct_append (w Left).0 _ (w Left).1
        (distinct_append (w Middle).0 _ (w Middle).1 (w Right).1 (apart Middle Right (λ q. omega (arith, ap place_number q))))
        (each_append _ (w Middle).0 _ (apart Left Middle (λ q. omega (arith, ap place_number q))) (apart Left Right (λ q. omega (arith, ap place_number q)))),
    each_append (Found x) (w Left).0 _ (found Left) (each_append (Found x) (w Middle).0 _ (found Middle) (found Right)),
    λ k l. leaves_in k x i (omega arith) ∙ rw (e, (w Left).3 (k - 1) (omega arith), (w Middle).3 (k - 1) (omega arith), (w Right).3 (k - 1) (omega arith)),
  )
    where
      found : (p : Place) → Each (Found x) (w p).0
      found p = each_map (found_above x p i) (w p).0 (w p).2

      apart : (p q : Place) → p ≢ q → Apart (w p).0 (w q).0
      apart p q ne = apart_by (w p).0 (w q).0 (found_apart x p q ne) (w p).2 (w q).2

  walk_in : (n x : ℕ) → In (spots t) x → ((p : Place) → Walked n (kid x p)) → Walked (suc n) x
  unfolding up
  walk_in n x i w =
      ⊎_elim (λ (e : is_leaf (node_at t x).children ≡ true).
      (x ∷ [], (tt, tt), (record { start = i; bare = (i, e); steps = 0; arrives = refl; depths = omega arith }, tt), λ k l. leaves_in k x i (omega arith) ∙ rw e))
      (λ (e : is_leaf (node_at t x).children ≡ false). walk_on n x i e w) (either (is_leaf (node_at t x).children))

  walk_nobody : (n x : ℕ) → (x ≢ nobody → Walked n x) → Walked n x
  walk_nobody n x f = ⊎_elim (λ (q : x ≡ nobody). ([], tt, tt, λ k l. rw q (leaves_nobody k))) f (alike x nobody)

  walk : (n x : ℕ) → (x ≢ nobody → In (spots t) x × (length t ≤ n + r.depth x)) → Walked n x
  unfolding kid
  walk zero x h = walk_nobody zero x (λ ne. absurd (omega (arith, (h ne).1, depth_low x (h ne).0)))
  walk (suc n) x h =
      walk_nobody (suc n) x (λ ne. walk_in n x (h ne).0 (λ p. walk n (kid x p) (λ k. let c = r.below x p k in (c.there, omega (arith, (h ne).1, c.deeper)))))

  -- from no node does the bound of depth decide the leaves
  pub leaves_from : (k x : ℕ) → In (spots t) x → length t ≤ k → leaves_below k t x ≡ leaves_below (length t) t x
  leaves_from k x i l = let w = walk (length t) x (λ ne. (i, omega arith)) in w.3 k l ∙ sym (w.3 (length t) (omega arith))

  walked : Walked (length t) 0
  walked = walk (length t) 0 (λ ne. (root_in (spots t) r, omega arith))

  walked_leaves : leaves t ≡ walked.0
  unfolding leaves
  walked_leaves = walked.3 (length t) (omega arith)

  -- nor does it decide the leaves
  pub leaves_more : (k : ℕ) → length t ≤ k → leaves_below k t 0 ≡ leaves t
  leaves_more k l = walked.3 k l ∙ sym walked_leaves

  -- each leaf is in the tree, and has no child
  pub leaves_bare : Each (Bare (spots t)) (leaves t)
  leaves_bare = rw walked_leaves (each_map (λ l (f : Found 0 l). f.bare) walked.0 walked.2)

  -- and is met once
  pub leaves_distinct : Distinct (leaves t)
  leaves_distinct = rw walked_leaves walked.1

  pub leaves_within : Each (λ l. l < length t) (leaves t)
  leaves_within = each_map (λ l (b : Bare (spots t) l). in_range t l b.0) (leaves t) leaves_bare

  pub leaves_few : length (leaves t) ≤ length t
  leaves_few = pigeonhole (length t) (leaves t) leaves_distinct leaves_within

-- no bound of depth from the number of nodes on decides the leaves or their paths
abbrev pub Unbounded : List Node → Type 0
Unbounded t = (k : ℕ) → length t ≤ k → (leaves_below k t 0 ≡ leaves t) × Each (λ l. upward k t l ≡ path t l) (leaves t)

pub treed_unbounded : (t : List Node) → Treed t → Unbounded t
treed_unbounded t r k h = (leaves_more t r k h, each_map (λ l (b : Bare (spots t) l). path_more t r k l b.0 h) (leaves t) (leaves_bare t r))
