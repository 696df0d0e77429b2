-- Each rule, applied to a node of a state that has the invariant, gives a faithful result.
use mathlib.Core.Path.{◌≡◌, refl, sym, ◌∙◌, subst}
use mathlib.Core.Bool.{Bool, true, false}
use mathlib.Core.List.{List, [], ◌∷◌, ◌++◌, map, append_assoc}
use mathlib.Core.Option.{Option, none, some}
use mathlib.Core.Logic.{◌⊎◌, inl, inr}
use Prim.Native.Nat.{ℕ, suc, ◌<◌, ◌+◌}
use native.Mathlib.Omega.{arith}
use lib.ListN.{length, length-append, length-reverse}
use Rattle.definition.specs.Lists.{Each, elem, filter}
use Rattle.definition.specs.Records.{Rec, nobody}
use Rattle.definition.specs.Setting.{Setting}
use Rattle.definition.specs.Models.{Model, Has}
use Rattle.definition.specs.Graph.{Graph, edge, initialize_graph_if_needed, fork}
use Rattle.definition.specs.Tree.{Node, new_node, node_at, leaves, path}
use Rattle.definition.specs.Rules.{Rule, nothing, down, split, as_possible, as_necessary, expansion}
use Rattle.definition.specs.Subtree.{Subtree, with_middle, with_left_right, flat, turned, numbered}
use Rattle.definition.specs.Modality.{Necessity, Fork, unvisited, visiting, reapply_necessity_after_possibility}
use Rattle.definition.specs.Run.{State, apply_here, apply_possibility, apply_necessity, apply_rule, apply}
use Rattle.definition.proofs.Basics.Lists.{true_false, either, Some, each_map, each_any, filter_each, each_of_map}
use Rattle.definition.proofs.Tree.Nodes.{label}
use Rattle.definition.proofs.Tree.Labels.{every_append}
use Rattle.definition.proofs.Tree.NewNodes.{Gifts, reapply_each, after_each_node}
use Rattle.definition.proofs.Basics.Forms.{WellFormed}
use Rattle.definition.proofs.Soundness.Priest.{Filled, no_rule, rule_filled, expansion_wf, Holds, holds_more, RuleHolds, rule_fits}
use Rattle.definition.proofs.Soundness.Clash.{Sat}
use Rattle.definition.proofs.Soundness.Edges.{Edges, init_edges, init_worlds, with_parent_lem, with_parent_old, with_parent_new, fork_edges, fork_worlds, rel_sound}
use Rattle.definition.proofs.Soundness.OpenSets.{path_elem, Side, side_map, side_turned, left_full, right_full}
use Rattle.definition.proofs.Soundness.Placing.{OkNode, Fine, amid_fine, made_side}
use Rattle.definition.proofs.Soundness.Necessities.{Occurs, Occurring, Good, Gives, middle_side, leaf_known, unvisited_each, reapply_good, after_good, after_each}
use Rattle.definition.proofs.Soundness.Invariant.{World, Ok, Stands, Low, Inv, Faithful}

-- a turned subtree is numbered alike
numbered_turned : (n : ℕ) (s : Subtree) → numbered n (turned s) ≡ numbered n s
unfolding numbered turned
numbered_turned n s = rw (length-reverse s.left, length-reverse s.middle, length-reverse s.right) refl

module _ (F : Setting) (M : Model) (has : Has F M) (w : ℕ) (begun : F.symmetric ≡ true → F.transitive ≡ true → M.reach w w ≡ true)
    (s : State) (i : Inv F M w s) (x : ℕ) where
  abbrev t : List Node
  t = s.nodes

  abbrev S : ℕ → Bool
  S = i.set

  -- the world of the node, and the number of worlds once there are any
  abbrev v₀ : ℕ
  v₀ = (node_at s.nodes x).world

  abbrev b : ℕ
  b = (initialize_graph_if_needed F s.graph).worlds

  sat_more : (more : List Rec) (v f : ℕ) → Sat M s.formulas v f → Sat M (s.formulas ++ more) v f
  sat_more more v f (inl q) = inl q
  sat_more more v f (inr q) = inr (holds_more M s.formulas more v f q)

  fine_more : (more : List Rec) (y : ℕ) → S y ≡ true → Ok M i.par i.img (s.formulas ++ more) t S (node_at t y).world (node_at t y).formula
  fine_more more y h = ((i.put.fine y h).0, sat_more more (i.img (node_at t y).world) (node_at t y).formula (i.put.fine y h).1)

  stand_more : (more : List Rec) → Each (Stands M i.par i.img (s.formulas ++ more) t S) s.necessities
  stand_more more =
      each_map
      (λ (n : Necessity) (q : Stands M i.par i.img s.formulas t S n).
      record { known = q.known; occurs = q.occurs; true_there = λ h v a c. holds_more M s.formulas more v n.formula (q.true_there h v a c) })
      s.necessities i.stand

  -- formulas at the node's own world, one of whose chains holds there
  here_faithful : (more : List Rec) (fs : Subtree) → x < length t → WellFormed (s.formulas ++ more) → (S x ≡ true → Side (Holds M (s.formulas ++ more) (i.img v₀)) fs) →
      Faithful F M w s i (apply_here s x more fs)
  unfolding apply_here
  here_faithful more fs hx wf fits =
      record {
        wf = wf;
        par = i.par;
        img = i.img;
        fine = fine_more more;
        good = ((hx, λ h. side h (fits h)), tt);
        edges = i.edges;
        low = every_append (Low F s.graph) t (map make (flat (turned fs))) i.low
            (each_of_map (λ (m : Node). Low F s.graph (label m)) make (flat (turned fs)) (each_any (λ f. v₀ < b) (λ f. i.low x hx) (flat (turned fs))));
        origin = i.origin;
        stand = stand_more more;
      }
    where
      make : ℕ → Node
      make f = new_node x f v₀

      P : ℕ → ℕ → Type 0
      P = Ok M i.par i.img (s.formulas ++ more) t S

      side : S x ≡ true → Side (Holds M (s.formulas ++ more) (i.img v₀)) fs → Side (Fine P (t ++ map make (flat (turned fs)))) (turned (numbered (length t) fs))
      side h k =
          side_turned _ (numbered (length t) fs)
          (subst (λ (a : Subtree). Side (Fine P (t ++ map make (flat (turned fs)))) a) (numbered_turned (length t) fs)
          (made_side P make t (turned fs)
          (side_turned (λ f. OkNode P (make f)) fs (side_map (Holds M (s.formulas ++ more) (i.img v₀)) (λ f. OkNode P (make f)) fs (λ f q. ((i.put.fine x h).0, inr q)) k))))

  -- what stored necessities give over a graph, with or without a fork
  module _ (rs : List Rec) (par img : ℕ → ℕ) (fine : (y : ℕ) → S y ≡ true → Ok M par img rs t S (node_at t y).world (node_at t y).formula)
      (g : Graph) (edges : Edges F par g) (k : Option Fork) (world : (v : ℕ) → Occurring t S k v → World M par img t S v) (origin : img 0 ≡ w) where
    old : (v : ℕ) → Occurs t S v → Occurring t S k v
    old v o = go k
      where
        go : (k : Option Fork) → Occurring t S k v
        go none = o
        go (some k) = inl o

    above : (v : ℕ) → World M par img t S v → (v ≡ 0) ⊎ ((par v < v) × Occurring t S k (par v) × (M.reach (img (par v)) (img v) ≡ true))
    above v q = go q.above
      where
        go : (v ≡ 0) ⊎ ((par v < v) × Occurs t S (par v) × (M.reach (img (par v)) (img v) ≡ true)) →
            (v ≡ 0) ⊎ ((par v < v) × Occurring t S k (par v) × (M.reach (img (par v)) (img v) ≡ true))
        go (inl e) = inl e
        go (inr e) = inr (e.0, old (par v) e.1, e.2)

    gives : (n : Necessity) → Stands M par img rs t S n → Gives (Ok M par img rs t S) t S i.put.whole k n (unvisited g n)
    gives n st hit =
        each_map {Q = λ v. Occurring t S k v → Ok M par img rs t S v n.formula}
        (λ v (a : (v < g.worlds) × (edge g n.world v ≡ true)) o. (
          world v o,
          inr (st.true_there hit (img v) (world v o).inside
              (rel_sound F M has par img (Occurring t S k) (λ u q. (world u q).inside) (λ u q. above u (world u q))
              (old 0 (0, (i.put.whole 0).root, i.ground))
              (λ a c. subst (λ (u : ℕ). M.reach u u ≡ true) (sym origin) (begun a c))
              n.world v (old n.world (st.occurs hit)) o (edges.rel n.world v a.1))),
        ))
        (unvisited g n) (unvisited_each g n)

  -- the worlds that a graph's necessities give are low in it
  gifts_low : (g : Graph) (n : Necessity) → Gifts (λ (m : Node). Low F g (label m)) g n
  gifts_low g n = each_map (λ v (a : (v < g.worlds) × (edge g n.world v ≡ true)). omega (arith, a.0, (init_worlds F g).1)) (unvisited g n) (unvisited_each g n)

  necessary_faithful : (more : List Rec) (f : ℕ) → x < length t → WellFormed (s.formulas ++ more) →
      (S x ≡ true → (v : ℕ) → v < M.size → M.reach (i.img v₀) v ≡ true → Holds M (s.formulas ++ more) v f) → Faithful F M w s i (apply_necessity F s x more f)
  unfolding apply_necessity visiting
  necessary_faithful more f hx wf fits =
      record {
        wf = wf;
        par = i.par;
        img = i.img;
        fine = fine_more more;
        good =
            reapply_good P t S i.put.whole t g none n n_stands.known
            (gives rs i.par i.img (fine_more more) g edges none (λ v o. subst (World M i.par i.img t S) o.2 (i.put.fine o.0 o.1).0) i.origin n n_stands);
        edges = edges;
        low = every_append (Low F g) t _ (λ y h. omega (arith, i.low y h, (init_worlds F g).1)) (reapply_each (λ (m : Node). Low F g (label m)) t g none (length t) n (gifts_low g n));
        origin = i.origin;
        stand = (record { known = n_stands.known; occurs = n_stands.occurs; true_there = n_stands.true_there }, stand_more more);
      }
    where
      g : Graph
      g = initialize_graph_if_needed F s.graph

      edges : Edges F i.par g
      edges = init_edges F i.par s.graph i.edges

      rs : List Rec
      rs = s.formulas ++ more

      P : ℕ → ℕ → Type 0
      P = Ok M i.par i.img rs t S

      n : Necessity
      n = record { formula = f; world = v₀; spawner = x; leaves = filter (λ leaf. elem x (path t leaf)) (leaves t); visited = [] }

      Leaf : ℕ → Type 0
      Leaf y = (y < length t) × (S y ≡ true → S x ≡ true)

      leaves_through : Each Leaf n.leaves
      leaves_through =
          each_map (λ y (a : elem x (path t y) ≡ true). (leaf_known t x y hx a, λ h. path_elem t S i.put.whole x y h a)) n.leaves
          (filter_each (λ leaf. elem x (path t leaf)) (leaves t))

      hit_x : (ls : List ℕ) → Each Leaf ls → Some (λ y. S y ≡ true) ls → S x ≡ true
      hit_x [] h q = absurd q
      hit_x (y ∷ ys) h (inl q) = h.0.1 q
      hit_x (y ∷ ys) h (inr q) = hit_x ys h.1 q

      n_stands : Stands M i.par i.img rs t S n
      n_stands =
          record {
            known = each_map (λ y (a : Leaf y). a.0) n.leaves leaves_through;
            occurs = λ h. (x, hit_x n.leaves leaves_through h, refl);
            true_there = λ h. fits (hit_x n.leaves leaves_through h);
          }

  -- a fork: m is the image of the new world, if the forking node is in the set
  module _ (more : List Rec) (f m : ℕ) (hx : x < length t) (wf : WellFormed (s.formulas ++ more))
      (new : S x ≡ true → (m < M.size) × (M.reach (i.img v₀) m ≡ true) × Holds M (s.formulas ++ more) m f) where
    abbrev rs : List Rec
    rs = s.formulas ++ more

    abbrev par' : ℕ → ℕ
    par' = with_parent_lem F i.par (initialize_graph_if_needed F s.graph).worlds v₀

    abbrev img' : ℕ → ℕ
    img' = with_parent_lem F i.img (initialize_graph_if_needed F s.graph).worlds m

    abbrev g : Graph
    g = fork F (initialize_graph_if_needed F s.graph) v₀

    abbrev k : Fork
    k = record { node = x; world = (initialize_graph_if_needed F s.graph).worlds }

    img_old : (v : ℕ) → v < b → img' v ≡ i.img v
    img_old v h = with_parent_old F i.img b m v h

    low_x : v₀ < b
    low_x = i.low x hx

    world_old : (v : ℕ) → v < b → World M i.par i.img t S v → World M par' img' t S v
    world_old v h q = record { inside = rw (img_old v h) q.inside; above = go q.above }
      where
        e : par' v ≡ i.par v
        e = with_parent_old F i.par b v₀ v h

        go : (v ≡ 0) ⊎ ((i.par v < v) × Occurs t S (i.par v) × (M.reach (i.img (i.par v)) (i.img v) ≡ true)) →
            (v ≡ 0) ⊎ ((par' v < v) × Occurs t S (par' v) × (M.reach (img' (par' v)) (img' v) ≡ true))
        go (inl d) = inl d
        go (inr d) =
            subst (λ (u : ℕ). (v ≡ 0) ⊎ ((u < v) × Occurs t S u × (M.reach (img' u) (img' v) ≡ true))) (sym e)
            (inr (d.0, d.1, rw (img_old v h, img_old (i.par v) (omega (arith, d.0, h))) d.2))

    world_new : S x ≡ true → World M par' img' t S b
    world_new h =
        let q = new h in
        let d = with_parent_new F i.img b m in
        record {
          inside = rw d q.0;
          above =
              inr (subst (λ (u : ℕ). (u < b) × Occurs t S u × (M.reach (img' u) (img' b) ≡ true)) (sym (with_parent_new F i.par b v₀))
              (low_x, (x, h, refl), rw (d, img_old v₀ low_x) q.1));
        }

    sat_old : (v h : ℕ) → v < b → Sat M s.formulas (i.img v) h → Sat M rs (img' v) h
    sat_old v h l q = subst (λ (a : ℕ). Sat M rs a h) (sym (img_old v l)) (sat_more more (i.img v) h q)

    fine' : (y : ℕ) → S y ≡ true → Ok M par' img' rs t S (node_at t y).world (node_at t y).formula
    fine' y h =
        let l = i.low y ((i.put.whole 0).known y h) in
        (world_old (node_at t y).world l (i.put.fine y h).0, sat_old (node_at t y).world (node_at t y).formula l (i.put.fine y h).1)

    stand' : Each (Stands M par' img' rs t S) s.necessities
    stand' =
        each_map
        (λ (a : Necessity) (q : Stands M i.par i.img s.formulas t S a).
        record {
          known = q.known;
          occurs = q.occurs;
          true_there = λ h v l r.
              holds_more M s.formulas more v a.formula
              (q.true_there h v l
              (subst (λ (u : ℕ). M.reach u v ≡ true)
              (img_old a.world (let o = q.occurs h in subst (λ (u : ℕ). u < b) o.2 (i.low o.0 ((i.put.whole 0).known o.0 o.1)))) r));
        })
        s.necessities i.stand

    edges' : Edges F par' g
    edges' = fork_edges F i.par (initialize_graph_if_needed F s.graph) v₀ low_x (init_edges F i.par s.graph i.edges)

    world' : (v : ℕ) → Occurring t S (some k) v → World M par' img' t S v
    world' v (inl o) = subst (World M par' img' t S) o.2 (fine' o.0 o.1).0
    world' v (inr o) = subst (World M par' img' t S) (sym o.0) (world_new o.1)

    origin' : img' 0 ≡ w
    origin' = img_old 0 (init_worlds F s.graph).0 ∙ i.origin

    abbrev two : List Node
    two = new_node x f (initialize_graph_if_needed F s.graph).worlds ∷ new_node x nobody 0 ∷ []

    two_ok : S x ≡ true → Each (OkNode (Ok M par' img' rs t S)) two
    two_ok h = (
      (world_new h, inr (subst (λ (a : ℕ). Holds M rs a f) (sym (with_parent_new F i.img b m)) (new h).2)),
      ((subst (World M par' img' t S) i.ground (fine' 0 (i.put.whole 0).root).0, inl refl), tt),
    )

    fork_faithful : Faithful F M w s i (apply_possibility F s x more f)
    unfolding apply_possibility visiting
    fork_faithful =
        let P = Ok M par' img' rs t S in
        let u = t ++ two in
        let n = length t in
        let rest = reapply_necessity_after_possibility t g k (n + 2) s.necessities in
        let e : length u ≡ n + 2 = length-append t two in
        let high = fork_worlds F (initialize_graph_if_needed F s.graph) v₀ in
        let ok = after_good P t S i.put.whole s.necessities u g k
        (each_map (λ (a : Necessity) (q : Stands M par' img' rs t S a). (q.known, gives rs par' img' fine' g edges' (some k) world' origin' a q)) s.necessities stand') in
        record {
          wf = wf;
          par = par';
          img = img';
          fine = fine';
          good = (
            (hx, λ h. let q = amid_fine P two rest.nodes t (two_ok h) in middle_side (Fine P (t ++ (two ++ rest.nodes))) (suc n ∷ n ∷ []) (q.1.0, (q.0, tt))),
            subst (λ (z : List Node). Good P t S i.put.whole z rest.subtrees) (append_assoc t two rest.nodes)
                (subst (λ (j : ℕ). Good P t S i.put.whole (u ++ (reapply_necessity_after_possibility t g k j s.necessities).nodes) (reapply_necessity_after_possibility t g k j s.necessities).subtrees) e ok),
          );
          edges = edges';
          low = every_append (Low F g) t (two ++ rest.nodes) (λ y h. omega (arith, i.low y h, high, (init_worlds F g).1))
              (omega (arith, high, (init_worlds F g).1), (omega (arith, high, (init_worlds F g).1), after_each_node (λ (m : Node). Low F g (label m)) s.necessities t g k (n + 2) (each_any (Gifts (λ (m : Node). Low F g (label m)) g) (gifts_low g) s.necessities)));
          origin = origin';
          stand = after_each (Stands M par' img' rs t S) t g k (λ a q. record { known = q.known; occurs = q.occurs; true_there = q.true_there }) s.necessities stand';
        }

  possible_faithful : (more : List Rec) (f : ℕ) → x < length t → WellFormed (s.formulas ++ more) →
      (S x ≡ true → (v : ℕ) × (v < M.size) × (M.reach (i.img v₀) v ≡ true) × Holds M (s.formulas ++ more) v f) → Faithful F M w s i (apply_possibility F s x more f)
  possible_faithful more f hx wf fits = go (either (S x))
    where
      go : (S x ≡ true) ⊎ (S x ≡ false) → Faithful F M w s i (apply_possibility F s x more f)
      go (inl q) = let v = fits q in fork_faithful more f v.0 hx wf (λ h. (v.1, v.2, v.3))
      go (inr q) = fork_faithful more f 0 hx wf (λ h. true_false (sym h ∙ q))

  rule_faithful : (more : List Rec) (r : Rule ℕ) → x < length t → WellFormed (s.formulas ++ more) → Filled r →
      (S x ≡ true → RuleHolds M (s.formulas ++ more) (i.img v₀) r) → Faithful F M w s i (apply_rule F s x more r)
  unfolding apply_rule
  rule_faithful more nothing hx wf full fits = here_faithful more (with_middle []) hx wf (λ h. middle_side (Holds M (s.formulas ++ more) (i.img v₀)) [] tt)
  rule_faithful more (down fs) hx wf full fits = here_faithful more (with_middle fs) hx wf (λ h. middle_side (Holds M (s.formulas ++ more) (i.img v₀)) fs (fits h))
  rule_faithful more (split fs gs) hx wf full fits = here_faithful more (with_left_right fs gs) hx wf (λ h. go (fits h))
    where
      P : ℕ → Type 0
      P = Holds M (s.formulas ++ more) (i.img v₀)

      go : Each P fs ⊎ Each P gs → Side P (with_left_right fs gs)
      go (inl h) = (fs, left_full fs [] gs full.0, h)
      go (inr h) = (gs, right_full fs [] gs full.1, h)
  rule_faithful more (as_possible f) hx wf full fits = possible_faithful more f hx wf fits
  rule_faithful more (as_necessary f) hx wf full fits = necessary_faithful more f hx wf fits

  -- the rule of any node of the tree
  pub apply_faithful : x < length t → Faithful F M w s i (apply F s x)
  unfolding apply
  apply_faithful hx =
      let f = (node_at t x).formula in
      let e = expansion s.formulas f in
      rule_faithful e.made e.rule hx (expansion_wf s.formulas i.wf f) (rule_filled s.formulas f) (λ h. fits (i.put.fine x h).1)
    where
      fits : Sat M s.formulas (i.img v₀) (node_at t x).formula →
          RuleHolds M (s.formulas ++ (expansion s.formulas (node_at t x).formula).made) (i.img v₀) (expansion s.formulas (node_at t x).formula).rule
      fits (inl e) = rw (e, no_rule s.formulas) tt
      fits (inr h) = rule_fits M s.formulas i.wf (node_at t x).formula (i.img v₀) h
