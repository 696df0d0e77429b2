-- What stored necessities give: on the paths of the set, true formulas at worlds that occur.
use mathlib.Core.Path.{◌≡◌, refl, sym, subst}
use mathlib.Core.Bool.{Bool, true, false, cond}
use mathlib.Core.List.{List, [], ◌∷◌, ◌++◌, map, append_assoc}
use mathlib.Core.Option.{Option, none, some}
use mathlib.Core.Logic.{◌⊎◌, inl, inr}
use Prim.Native.Nat.{ℕ, zero, suc, ◌<◌, ◌≤◌, ◌+◌}
use native.Mathlib.Omega.{arith}
use lib.Dec.{eqb, ltb}
use borrow.Author.Tests.{ltb-true, ltb-false, eqb-true}
use lib.ListN.{length, length-append, length-map, get_or-eq_default}
use Rattle.definition.specs.Lists.{Each, any, elem, filter, up_from, below}
use Rattle.definition.specs.Records.{nobody, is_nobody}
use Rattle.definition.specs.Graph.{Graph, edge, reached}
use Rattle.definition.specs.Tree.{Node, new_node, node_at, upward, leaves, path}
use Rattle.definition.specs.Subtree.{Targeted, with_middle}
use Rattle.definition.specs.Modality.{Necessity, Fork, Reapplication, runs_through, forked_on, occurs, unvisited, give_on, leaves_of, reapply_necessity, is_reapplied, reapply_if_on_path, visiting, reapply_necessity_after_possibility, necessities_after_possibility}
use Rattle.definition.proofs.Basics.Lists.{true_false, and_left, and_right, or_cases, either, cond_both, Some, each_map, each_append, each_filter, filter_each, each_of_map, each_reverse, some_each, some_pick, any_some, elem_each, below_each}
use Rattle.definition.proofs.Tree.Nodes.{blank, Ext, ext_append}
use Rattle.definition.proofs.Soundness.OpenSets.{Whole, path_in, path_elem, no_chain, middle_chain, Side, side_map}
use Rattle.definition.proofs.Soundness.Placing.{OkNode, Fine, fine_ext, amid_fine}

-- a world that occurs on a node of the set
abbrev pub Occurs : List Node → (ℕ → Bool) → ℕ → Type 0
Occurs t S v = (x : ℕ) × (S x ≡ true) × ((node_at t x).world ≡ v)

-- or that a fork at a node of the set makes
abbrev pub Occurring : List Node → (ℕ → Bool) → Option Fork → ℕ → Type 0
Occurring t S none v = Occurs t S v
Occurring t S (some k) v = Occurs t S v ⊎ ((v ≡ k.world) × (S k.node ≡ true))

-- the worlds that a necessity may give are reached from its own
pub unvisited_each : (g : Graph) (n : Necessity) → Each (λ v. (v < g.worlds) × (edge g n.world v ≡ true)) (unvisited g n)
unfolding unvisited reached
unvisited_each g n =
    each_map (λ v (a : ((v < g.worlds) × (edge g n.world v ≡ true)) × _). a.0) (unvisited g n)
    (each_filter (λ v. (v < g.worlds) × (edge g n.world v ≡ true)) _ (reached g n.world)
    (each_filter (λ v. v < g.worlds) (edge g n.world) (below g.worlds) (below_each g.worlds)))

pub middle_side : (P : ℕ → Type 0) (cs : List ℕ) → Each P cs → Side P (with_middle cs)
middle_side P [] h = ([], no_chain, tt)
middle_side P (c ∷ cs) h = (c ∷ cs, middle_chain [] c cs [], h)

-- what visiting keeps, every stored necessity keeps at a fork
pub after_each : (P : Necessity → Type 0) (t : List Node) (g : Graph) (k : Fork) → ((n : Necessity) → P n → P (visiting t g n)) → (ns : List Necessity) → Each P ns →
    Each P (necessities_after_possibility t g k ns)
unfolding necessities_after_possibility
after_each P t g k f ns h =
    let one : Necessity → Necessity = λ n. cond (is_reapplied t k n) (visiting t g n) n in
    each_reverse P (map one ns) (each_of_map P one ns (each_map (λ n q. cond_both P (is_reapplied t k n) (visiting t g n) n (f n q) q) ns h))

-- a number beyond the tree is the whole of its path
beyond : (n : ℕ) (t : List Node) (x : ℕ) → length t ≤ x → Each (λ y. y ≡ x) (upward n t x)
unfolding upward
beyond zero t x h = tt
beyond (suc n) t x h =
    cond_both (Each (λ y. y ≡ x)) (is_nobody x) [] (x ∷ upward n t (node_at t x).parent) tt
    (refl, subst (λ (m : Node). Each (λ y. y ≡ x) (upward n t m.parent)) (sym (get_or-eq_default t blank h)) (none_up n))
  where
    none_up : (m : ℕ) → Each (λ y. y ≡ x) (upward m t nobody)
    none_up zero = tt
    none_up (suc m) = tt

-- a path through a node of the tree has its leaf there
pub leaf_known : (t : List Node) (x leaf : ℕ) → x < length t → elem x (path t leaf) ≡ true → leaf < length t
unfolding path
leaf_known t x leaf h e = go (either (ltb leaf (length t)))
  where
    go : (ltb leaf (length t) ≡ true) ⊎ (ltb leaf (length t) ≡ false) → leaf < length t
    go (inl q) = ltb-true leaf (length t) q
    go (inr q) =
        let d : x ≡ leaf = elem_each (λ y. y ≡ leaf) x (upward (length t) t leaf) e (beyond (length t) t leaf (ltb-false leaf (length t) q)) in
        omega (arith, h, d)

module _ (Ok : ℕ → ℕ → Type 0) (t : List Node) (S : ℕ → Bool) (w : Whole t S) where
  -- targets are nodes of the tree, and where one is in the set, its subtree has a chain that is fine in u
  abbrev pub Good : List Node → List Targeted → Type 0
  Good u rs = Each (λ (r : Targeted). (r.target < length t) × (S r.target ≡ true → Side (Fine Ok u) r.subtree)) rs

  good_ext : (u u' : List Node) (rs : List Targeted) → Ext u u' → Good u rs → Good u' rs
  good_ext u u' rs e h =
      each_map (λ (r : Targeted) (k : (r.target < length t) × (S r.target ≡ true → Side (Fine Ok u) r.subtree)). (
        k.0,
        λ q. side_map (Fine Ok u) (Fine Ok u') r.subtree (fine_ext Ok u u' e) (k.1 q),
      )) rs h

  occurs_on : (k : Option Fork) (leaf v : ℕ) → S leaf ≡ true → occurs t k (path t leaf) v ≡ true → Occurring t S k v
  unfolding occurs forked_on
  occurs_on k leaf v h e = go k (or_cases (any (λ x. eqb (node_at t x).world v) (path t leaf)) (forked_on k (path t leaf) v) e)
    where
      here : any (λ x. eqb (node_at t x).world v) (path t leaf) ≡ true → Occurs t S v
      here q =
          let s =
          some_pick (path t leaf)
          (some_each {R = λ x. (S x ≡ true) × (eqb (node_at t x).world v ≡ true)} (λ x a b. (b, a)) (path t leaf) (any_some (λ x. eqb (node_at t x).world v) (path t leaf) q) (path_in t S w leaf h)) in
          (s.0, s.1.0, eqb-true (node_at t s.0).world v s.1.1)

      go : (k : Option Fork) → (any (λ x. eqb (node_at t x).world v) (path t leaf) ≡ true) ⊎ (forked_on k (path t leaf) v ≡ true) → Occurring t S k v
      go none (inl q) = here q
      go none (inr q) = true_false (sym q)
      go (some k) (inl q) = inl (here q)
      go (some k) (inr q) =
          inr (eqb-true v k.world (and_left (eqb v k.world) _ q), path_elem t S w k.node leaf h (and_right (eqb v k.world) _ q))

  -- the stored leaves of a necessity are nodes of the tree
  abbrev pub Known : Necessity → Type 0
  Known n = Each (λ s. s < length t) n.leaves

  -- and one of them is in the set
  abbrev pub Hit : Necessity → Type 0
  Hit n = Some (λ s. S s ≡ true) n.leaves

  abbrev On : Necessity → ℕ → Type 0
  On n leaf = (leaf < length t) × (S leaf ≡ true → Hit n)

  leaves_on : (n : Necessity) → Known n → Each (On n) (leaves_of t n)
  unfolding leaves_of runs_through
  leaves_on n known =
      each_map {Q = On n} one (leaves_of t n) (filter_each (λ leaf. runs_through n (path t leaf)) (leaves t))
    where
      one : (leaf : ℕ) → runs_through n (path t leaf) ≡ true → On n leaf
      one leaf q =
          let hits = any_some (λ s. elem s (path t leaf)) n.leaves q in
          let s = some_pick n.leaves (some_each {R = λ x. (x < length t) × (elem x (path t leaf) ≡ true)} (λ x a b. (b, a)) n.leaves hits known) in (
            leaf_known t s.0 leaf s.1.0 s.1.1,
            λ h. some_each {R = λ x. S x ≡ true} (λ x (a : elem x (path t leaf) ≡ true) (b : x < length t). path_elem t S w x leaf h a) n.leaves hits known,
          )

  -- the worlds of the list, where they occur, are fine for the necessity's formula
  abbrev pub Gives : Option Fork → Necessity → List ℕ → Type 0
  Gives k n worlds = Hit n → Each (λ v. Occurring t S k v → Ok v n.formula) worlds

  give_good : (ls : List ℕ) (u : List Node) (k : Option Fork) (n : Necessity) (worlds : List ℕ) → Gives k n worlds → Each (On n) ls →
      Good (u ++ (give_on t k n worlds (length u) ls).nodes) (give_on t k n worlds (length u) ls).subtrees
  unfolding give_on
  give_good [] u k n worlds g h = tt
  give_good (leaf ∷ ls) u k n worlds g h =
      let here = filter (occurs t k (path t leaf)) worlds in
      let make = new_node n.spawner n.formula in
      let ns = map make here in
      let rest = (give_on t k n worlds (length u + length here) ls).nodes in
      let e : length (u ++ ns) ≡ length u + length here = omega (arith, length-append u ns, length-map here make) in
      let ok : S leaf ≡ true → Each (OkNode Ok) ns = λ q.
      each_of_map (OkNode Ok) make here
      (each_map (λ v (a : (Occurring t S k v → Ok v n.formula) × (occurs t k (path t leaf) v ≡ true)). a.0 (occurs_on k leaf v q a.1)) here
      (each_filter (λ v. Occurring t S k v → Ok v n.formula) (occurs t k (path t leaf)) worlds (g (h.0.1 q)))) in (
        (
          h.0.0,
          λ q. middle_side (Fine Ok (u ++ (ns ++ rest))) (up_from (length here) (length u))
              (subst (λ (m : ℕ). Each (Fine Ok (u ++ (ns ++ rest))) (up_from m (length u))) (length-map here make) (amid_fine Ok ns rest u (ok q))),
        ),
        subst (λ (v : List Node). Good v (give_on t k n worlds (length u + length here) ls).subtrees) (append_assoc u ns rest)
            (subst (λ (m : ℕ). Good ((u ++ ns) ++ (give_on t k n worlds m ls).nodes) (give_on t k n worlds m ls).subtrees) e (give_good ls (u ++ ns) k n worlds g h.1)),
      )

  pub reapply_good : (u : List Node) (g : Graph) (k : Option Fork) (n : Necessity) → Known n → Gives k n (unvisited g n) →
      Good (u ++ (reapply_necessity t g k (length u) n).nodes) (reapply_necessity t g k (length u) n).subtrees
  unfolding reapply_necessity
  reapply_good u g k n known gives = give_good (leaves_of t n) u k n (unvisited g n) gives (leaves_on n known)

  one_good : (u : List Node) (g : Graph) (k : Fork) (n : Necessity) → Known n → Gives (some k) n (unvisited g n) →
      Good (u ++ (reapply_if_on_path t g k (length u) n).nodes) (reapply_if_on_path t g k (length u) n).subtrees
  unfolding reapply_if_on_path
  one_good u g k n known gives =
      cond_both (λ (m : Reapplication). Good (u ++ m.nodes) m.subtrees) (is_reapplied t k n) (reapply_necessity t g (some k) (length u) n) (record { nodes = []; subtrees = [] })
      (reapply_good u g (some k) n known gives) tt

  pub after_good : (ns : List Necessity) (u : List Node) (g : Graph) (k : Fork) → Each (λ (n : Necessity). Known n × Gives (some k) n (unvisited g n)) ns →
      Good (u ++ (reapply_necessity_after_possibility t g k (length u) ns).nodes) (reapply_necessity_after_possibility t g k (length u) ns).subtrees
  unfolding reapply_necessity_after_possibility
  after_good [] u g k h = tt
  after_good (n ∷ ns) u g k h =
      let one = reapply_if_on_path t g k (length u) n in
      let v = u ++ one.nodes in
      let rest = reapply_necessity_after_possibility t g k (length u + length one.nodes) ns in
      let e : length v ≡ length u + length one.nodes = length-append u one.nodes in
      subst (λ (z : List Node). Good z (one.subtrees ++ rest.subtrees)) (append_assoc u one.nodes rest.nodes)
      (each_append _ one.subtrees rest.subtrees
      (good_ext v (v ++ rest.nodes) one.subtrees (ext_append v rest.nodes) (one_good u g k n h.0.0 h.0.1))
      (subst (λ (m : ℕ). Good (v ++ (reapply_necessity_after_possibility t g k m ns).nodes) (reapply_necessity_after_possibility t g k m ns).subtrees) e (after_good ns v g k h.1)))
