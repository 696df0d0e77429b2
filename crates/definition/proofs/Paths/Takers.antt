-- Closed paths take nothing: what a step places stands below leaves whose paths have no contradictory node.
use mathlib.Core.Path.{◌≡◌, refl, sym, ap, ◌∙◌, subst}
use mathlib.Core.Bool.{Bool, true, false, not}
use mathlib.Core.List.{List, [], ◌∷◌, ◌++◌, map, append_assoc}
use mathlib.Core.Logic.{◌⊎◌, inl, inr, ⊎_elim, ◌≢◌}
use Prim.Native.Nat.{ℕ, zero, suc, ◌<◌, ◌≤◌, ◌+◌, ◌-◌}
use native.Mathlib.Omega.{arith}
use lib.Dec.{ltb}
use borrow.Author.Tests.{ltb-true, ltb-false}
use lib.ListN.{length, length-append, length-map, get_or-eq_default}
use Rattle.definition.specs.Lists.{Each, any, filter, elem}
use Rattle.definition.specs.Records.{nobody, is_nobody}
use Rattle.definition.specs.Setting.{Setting}
use Rattle.definition.specs.Tree.{Node, Place, Left, Middle, Right, node_at, placed_below, with_child, link, link_chain, change, Children, is_leaf, is_contradictory, leaves, path, child_at}
use Rattle.definition.specs.Subtree.{Subtree, Targeted, flat, numbered, copied, append_subtree_on_leaf, push_subtree, append_copies, append_on, takes, append_subtree, append_logic_rule_result}
use Rattle.definition.specs.Run.{State, apply}
use Rattle.definition.proofs.Basics.Lists.{true_false, either, alike, not_true, and_right, each_map, each_any, each_of_map, each_filter, each_left, each_right}
use Rattle.definition.proofs.Tree.Nodes.{blank, change_same, change_keeps, link_keeps, length_link, length_chain, length_leaf, node_append, ext_append, ext_subtree}
use Rattle.definition.proofs.Basics.Identifiers.{IssuedBetween, ids_numbered, issued_le, issued_front, apply_issued}
use Rattle.definition.proofs.Tree.Labels.{node_after}
use Rattle.definition.proofs.Tree.NewNodes.{apply_each}
use Rattle.definition.proofs.Run.Fullness.{part_grows}
use Rattle.definition.specs.TreeShape.{spots, placed, In, Treed, Bare}
use Rattle.definition.proofs.Tree.Shape.{leaves_bare, in_range, root_in, path_distinct}
use Rattle.definition.proofs.Tree.Linking.{bare_room}
use Rattle.definition.proofs.Run.TreeKept.{between, between_keeps}
use Rattle.definition.proofs.Paths.Pairs.{climbing, path_below, Stem, stem, Grown, chain_stem, result_stem, grown_in, grown_parent, grown_path}

-- the path that ends at l has a contradictory node
abbrev pub closed : List Node → ℕ → Bool
closed t l = any (λ x. is_contradictory (node_at t x)) (path t l)

-- a leaf whose path has no contradictory node: only such leaves take subtrees
pub record OpenLeaf (t : List Node) (l : ℕ) : Type 0 where
  pub bare : Bare (spots t) l
  pub unmarked : closed t l ≡ false

pub leaf_by : (c : Children) → ((p : Place) → child_at p c ≡ nobody) → is_leaf c ≡ true
unfolding is_leaf child_at
leaf_by c f = rw (f Left, f Middle, f Right)

any_like : {A : Type 0} (p q : A → Bool) (xs : List A) → Each (λ x. p x ≡ q x) xs → any p xs ≡ any q xs
any_like p q [] h = refl
any_like p q (x ∷ xs) h = rw (h.0, any_like p q xs h.1)

module _ (t t' : List Node) (r : Treed t) (g : Grown t t') where
  -- a node that has a child keeps it
  pub bare_before : Treed t' → (l : ℕ) → In (spots t) l → is_leaf (node_at t' l).children ≡ true → is_leaf (node_at t l).children ≡ true
  bare_before r' l i b =
      leaf_by (node_at t l).children
      (λ p.
      let c = child_at p (node_at t l).children in
      ⊎_elim (λ e. e)
      (λ (ne : c ≢ nobody).
      let k = r.below l p ne in
      let up = grown_parent t t' r g c k.there ∙ k.parent in
      let at = ap (λ (n : Stem). n.place) (g.stems c (in_range t c k.there)) ∙ k.place in
      let a = (r'.above c (grown_in t t' r g c k.there) (λ q. omega (arith, k.deeper, r.top, ap r.depth q))).child in
      sym a ∙ rw (up, at) (bare_room p (node_at t' l).children b)) (alike c nobody))

  open_before : Treed t' → (l : ℕ) → l < length t → OpenLeaf t' l → OpenLeaf t l
  unfolding is_contradictory
  open_before r' l h o =
      let i : In (spots t) l = sym (ap (λ (n : Stem). placed n.place) (g.stems l h)) ∙ o.bare.0 in
      record {
        bare = (i, bare_before r' l i o.bare.1);
        unmarked = sym (any_like _ _ (path t l) (each_map (λ z k. ap (λ (n : Stem). not (is_nobody n.contrarian)) (g.stems z k)) (path t l) (path_distinct t r l i).1)) ∙ rw (← grown_path t t' r g l i) o.unmarked;
      }

each_node : (P : Node → Type 0) → P blank → (ns : List Node) → Each P ns → (x : ℕ) → P (node_at ns x)
each_node P b [] h x = b
each_node P b (n ∷ ns) h zero = h.0
each_node P b (n ∷ ns) h (suc x) = each_node P b ns h.1 x

-- a node that was made and not placed
abbrev Fresh : Node → Type 0
Fresh n = (placed n.place ≡ false) × (n.contrarian ≡ nobody)

-- what is placed on the tree t₀
module _ (t₀ : List Node) where
  -- w is new, or an open leaf
  abbrev pub Taker : ℕ → Type 0
  Taker w = (length t₀ ≤ w) ⊎ OpenLeaf t₀ w

  -- the new nodes of t stand below such, and are not marked
  pub record Hung (t : List Node) : Type 0 where
    pub below : (z : ℕ) → In (spots t) z → length t₀ ≤ z → Taker (node_at t z).parent
    pub plain : (z : ℕ) → length t₀ ≤ z → (node_at t z).contrarian ≡ nobody

  -- a new node of t
  abbrev Issue : List Node → ℕ → Type 0
  Issue t c = (length t₀ ≤ c) × (c < length t)

  issue_more : (t t' : List Node) (cs : List ℕ) → length t ≤ length t' → Each (Issue t) cs → Each (Issue t') cs
  issue_more t t' cs l = each_map (λ c (h : Issue t c). (h.0, omega (arith, h.1, l))) cs

  hung_link : (t : List Node) (y : ℕ) (p : Place) (x : ℕ) → x < length t → Taker y → Hung t → Hung (link t y p x)
  unfolding link link_chain
  hung_link t y p x l k h =
      let u = change t x (placed_below y p) in
      record {
        below = λ z i n. ⊎_elim
            (λ (e : z ≡ x). subst (λ (v : ℕ). Taker (node_at (link t y p x) v).parent) (sym e)
            (subst Taker (sym (change_keeps (λ (n : Node). n.parent) u y (with_child p x) (λ n. refl) x ∙ ap (λ (n : Node). n.parent) (change_same t x (placed_below y p) l))) k))
            (λ (e : z ≢ x).
            let same = chain_stem (x ∷ []) t y p z (e, tt) in
            subst Taker (sym (ap (λ (n : Stem). n.parent) same)) (h.below z (sym (ap (λ (n : Stem). placed n.place) same) ∙ i) n)) (alike z x);
        plain = λ z n. link_keeps (λ (n : Node). n.contrarian) (record { entering = λ y p n. refl; bearing = λ p x n. refl }) t y p x z ∙ h.plain z n;
      }

  hung_chain : (cs : List ℕ) (t : List Node) (y : ℕ) (p : Place) → Each (Issue t) cs → Taker y → Hung t → Hung (link_chain t y p cs)
  unfolding link_chain
  hung_chain [] t y p i k h = h
  hung_chain (c ∷ cs) t y p i k h =
      let u = link t y p c in
      hung_chain cs u c Middle (issue_more t u cs (omega (arith, length_link t y p c)) i.1) (inl i.0.0) (hung_link t y p c i.0.1 k h)

  hung_leaf : (t : List Node) (y : ℕ) (s : Subtree) → Each (Issue t) (flat s) → Taker y → Hung t → Hung (append_subtree_on_leaf t y s)
  unfolding append_subtree_on_leaf flat
  hung_leaf t y s i k h =
      let j = each_right (Issue t) s.left (s.middle ++ s.right) i in
      let a = link_chain t y Left s.left in
      let b = link_chain a y Middle s.middle in
      let la = length_chain t y Left s.left in
      let lb = length_chain a y Middle s.middle in
      hung_chain s.right b y Right (issue_more t b s.right (omega (arith, la, lb)) (each_right (Issue t) s.middle s.right j)) k
      (hung_chain s.middle a y Middle (issue_more t a s.middle (omega (arith, la)) (each_left (Issue t) s.middle s.right j)) k
      (hung_chain s.left t y Left (each_left (Issue t) s.left (s.middle ++ s.right) i) k h))

  hung_append : (t ns : List Node) → length t₀ ≤ length t → Each Fresh ns → Hung t → Hung (t ++ ns)
  unfolding placed
  hung_append t ns l f h =
      let fresh = each_node Fresh (refl, refl) ns f in
      let at : (z : ℕ) → (node_at (t ++ ns) z ≡ node_at t z) ⊎ Fresh (node_at (t ++ ns) z) = λ z.
      ⊎_elim (λ q. inl (node_append t ns z (ltb-true z (length t) q))) (λ q. inr (rw (node_after t ns z (ltb-false z (length t) q)) (fresh (z - length t)))) (either (ltb z (length t))) in
      record {
        below = λ z i n. ⊎_elim (λ e. rw e (h.below z (rw e at i) n)) (λ e. true_false (sym i ∙ e.0)) (at z);
        plain = λ z n. ⊎_elim (λ e. rw e (h.plain z n)) (λ e. e.1) (at z);
      }

  hung_copies : (ls : List ℕ) (t : List Node) (q : List ℕ) (s : Subtree) → length t₀ ≤ length t → Each Taker ls → Hung t → Hung (append_copies t q ls s).nodes
  unfolding append_copies placed
  hung_copies [] t q s l k h = h
  hung_copies (y ∷ ls) t q s l k h =
      let n = length t in
      let c = numbered n s in
      let ns = map (copied t) (flat s) in
      let u = t ++ ns in
      let e : length u ≡ n + length (flat s) = omega (arith, length-append t ns, length-map (flat s) (copied t)) in
      hung_copies ls (append_subtree_on_leaf u y c) (push_subtree q c) s (omega (arith, l, e, length_leaf u y c)) k.1
      (hung_leaf u y c (each_map {Q = Issue u} (λ x (w : (n ≤ x) × (x < n + length (flat s))). (omega (arith, w.0, l), omega (arith, w.1, e))) (flat c) (ids_numbered n s).within) k.0
      (hung_append t ns l (each_of_map Fresh (copied t) (flat s) (each_any (λ x. Fresh (copied t x)) (λ x. (refl, refl)) (flat s))) h))

  hung_on : (ls : List ℕ) (t : List Node) (q : List ℕ) (s : Subtree) → length t₀ ≤ length t → Each (Issue t) (flat s) → Each Taker ls → Hung t → Hung (append_on t q ls s).nodes
  unfolding append_on
  hung_on [] t q s l i k h = h
  hung_on (y ∷ ls) t q s l i k h = hung_copies ls (append_subtree_on_leaf t y s) (push_subtree q s) s (omega (arith, l, length_leaf t y s)) k.1 (hung_leaf t y s i k.0 h)

  takers : (t : List Node) (target : ℕ) → Treed t₀ → Grown t₀ t → Treed t → Each Taker (filter (takes t target) (leaves t))
  unfolding takes
  takers t target r₀ g r =
      each_map {Q = Taker}
      (λ l (h : Bare (spots t) l × (takes t target l ≡ true)).
      ⊎_elim (λ q. inr (open_before t₀ t r₀ g r l (ltb-true l (length t₀) q) (record { bare = h.0; unmarked = not_true _ (and_right (elem target (path t l)) _ h.1) })))
      (λ q. inl (ltb-false l (length t₀) q)) (either (ltb l (length t₀)))) (filter (takes t target) (leaves t)) (each_filter (Bare (spots t)) (takes t target) (leaves t) (leaves_bare t r))

  hung_result : (rs : List Targeted) (t : List Node) (q : List ℕ) (lo hi : ℕ) → IssuedBetween lo hi rs → length t₀ ≤ lo → hi ≤ length t → Treed t₀ → Grown t₀ t →
      ((before after : List Targeted) → rs ≡ before ++ after → Treed (append_logic_rule_result t q before).nodes) → Hung t → Hung (append_logic_rule_result t q rs).nodes
  unfolding append_logic_rule_result append_subtree
  hung_result [] t q lo hi i l m r₀ g r h = h
  hung_result (a ∷ rs) t q lo hi i l m r₀ g r h =
      let s = a.subtree in
      let p = append_subtree t q a.target s in
      let near = issued_le i.0 hi rs i.2 in
      let long = (ext_subtree t q a.target s).longer in
      let g' : Grown t₀ p.nodes = record {
        longer = omega (arith, long, g.longer);
        stems = λ z k. result_stem (a ∷ []) t q lo i.0 (i.0, i.1, refl) (omega (arith, near, m)) z (omega (arith, k, l)) ∙ g.stems z k;
      } in
      hung_result rs p.nodes p.waiting i.0 hi i.2 (omega (arith, l, i.1.count)) (omega (arith, m, long)) r₀ g'
      (λ before after e. r (a ∷ before) after (ap (λ (xs : List Targeted). a ∷ xs) e))
      (hung_on (filter (takes t a.target) (leaves t)) t q s g.longer
      (each_map {Q = Issue t} (λ x (w : (lo ≤ x) × (x < i.0)). (omega (arith, w.0, l), omega (arith, w.1, near, m))) (flat s) i.1.within)
      (takers t a.target r₀ g (r [] (a ∷ rs) refl)) h)

  hung_none : Hung t₀
  hung_none =
      record {
        below = λ z i n. absurd (omega (arith, n, in_range t₀ z i));
        plain = λ z n. ap (λ (n : Node). n.contrarian) (get_or-eq_default t₀ blank {n = z} n);
      }

pub grown_append : (t ns : List Node) → Grown t (t ++ ns)
grown_append t ns = record { longer = (ext_append t ns).longer; stems = λ z h. ap stem (node_append t ns z h) }

-- every node that a step places stands below another, or below an open leaf
pub between_hung : (F : Setting) (s : State) (x : ℕ) (q : List ℕ) (before after : List Targeted) → (apply F s x).subtrees ≡ before ++ after →
    Treed s.nodes → length (between F s x q before) ≤ nobody → Hung s.nodes (between F s x q before)
unfolding placed
between_hung F s x q before after e r few =
    let t = s.nodes in
    let ns = (apply F s x).nodes in
    let i = issued_front (length t) (length t + length ns) before after (rw e at (apply_issued F s x)) in
    hung_result t before (t ++ ns) q (length t) i.0 i.1 (omega arith) (omega (arith, i.2, length-append t ns)) r (grown_append t ns)
    (λ b a d.
    (between_keeps F s x q b (a ++ after) (e ∙ ap (λ (xs : List Targeted). xs ++ after) d ∙ append_assoc b a after)).treed r
    (omega (arith, few, part_grows b a (t ++ ns) q, ap (λ (xs : List Targeted). length (append_logic_rule_result (t ++ ns) q xs).nodes) d)))
    (hung_append t t ns (omega arith) (apply_each Fresh (λ a b c. (refl, refl)) F s x) (hung_none t))

-- the path of a new node: new nodes, and then the path of an open leaf
pub record NewPath (t₀ t : List Node) (z : ℕ) : Type 0 where
  pub new : List ℕ
  pub leaf : ℕ
  pub taker : OpenLeaf t₀ leaf
  pub high : Each (λ x. length t₀ ≤ x) new
  pub is : path t z ≡ new ++ path t₀ leaf

pub new_path : (t₀ t : List Node) → Treed t₀ → Treed t → Grown t₀ t → Hung t₀ t → (z : ℕ) → In (spots t) z → length t₀ ≤ z → NewPath t₀ t z
new_path t₀ t r₀ r g h =
    climbing t r (λ z. length t₀ ≤ z → NewPath t₀ t z) (λ l. absurd (omega (arith, l, in_range t₀ 0 (root_in (spots t₀) r₀))))
    (λ z i j up l.
    let on : (ys : List ℕ) → path t (node_at t z).parent ≡ ys → path t z ≡ z ∷ ys = λ ys e. path_below t r z i ∙ ap (λ (ws : List ℕ). z ∷ ws) e in
    ⊎_elim (λ k. let n = up k in record { new = z ∷ n.new; leaf = n.leaf; taker = n.taker; high = (l, n.high); is = on _ n.is })
    (λ k. record { new = z ∷ []; leaf = (node_at t z).parent; taker = k; high = (l, tt); is = on _ (grown_path t₀ t r₀ g (node_at t z).parent k.bare.0) }) (h.below z i l))
