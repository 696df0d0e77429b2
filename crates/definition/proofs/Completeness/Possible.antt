-- A step whose rule acts as Possible: a new world, and the necessities on its paths reapplied.
use mathlib.Core.Path.{◌≡◌, refl, sym, ap, ◌∙◌, subst}
use mathlib.Core.Bool.{Bool, true, false, cond}
use mathlib.Core.List.{List, [], ◌∷◌, ◌++◌, map}
use mathlib.Core.Option.{some}
use mathlib.Core.Logic.{◌⊎◌, inl, inr, ⊎_elim}
use Prim.Native.Nat.{ℕ, suc, ◌<◌, ◌+◌}
use native.Mathlib.Omega.{arith}
use lib.ListN.{length}
use Rattle.definition.specs.Lists.{Each, elem}
use Rattle.definition.specs.Records.{nobody}
use Rattle.definition.specs.Formula.{Form, form_at}
use Rattle.definition.specs.Setting.{Setting}
use Rattle.definition.specs.Graph.{Graph, edge, initialize_graph_if_needed, fork}
use Rattle.definition.specs.Tree.{Node, new_node, node_at, path}
use Rattle.definition.specs.Rules.{Rule, as_possible, expansion, written_rule}
use Rattle.definition.specs.Subtree.{flat}
use Rattle.definition.specs.Modality.{Necessity, Fork, Reapplication, occurs, unvisited, leaves_of, is_reapplied, visiting, reapply_necessity_after_possibility, necessities_after_possibility}
use Rattle.definition.specs.Queue.{Popped}
use Rattle.definition.specs.Run.{State, LogicRuleResult, apply_possibility, apply_rule, apply, appended, checked_for_contradictions}
use Rattle.definition.specs.Countermodel.{keeps_edges}
use Rattle.definition.proofs.Basics.Lists.{true_false, Some, some_map, some_among, among_some, some_of_map, some_reverse, some_any, Among, each_by, each_among, each_reverse, each_of_map, cond_both}
use Rattle.definition.proofs.Soundness.Priest
use Rattle.definition.proofs.Soundness.Necessities.{unvisited_each}
use Rattle.definition.specs.TreeShape.{spots, In}
use Rattle.definition.proofs.Tree.Shape.{in_range}
use Rattle.definition.proofs.Paths.Spawners.{Rooted}
use Rattle.definition.proofs.Paths.Pairs.{path_there}
use Rattle.definition.proofs.Completeness.On.{On, OpenLeaf, occurs_some, some_occurs, occurs_cases, forked_occurs, keeps_cases, keeps_like}
use Rattle.definition.proofs.Completeness.Frames.{Frame, Forked, fork_framed, init_same}
use Rattle.definition.proofs.Completeness.Placed.{LaidFrom, laid_end}
use Rattle.definition.proofs.Completeness.Steps.{Stepping, after, Next, next, tree, rule_low, known_next, old_on, shows_on, worlds_next}
use Rattle.definition.proofs.Completeness.Settled.{begun, Occurs, Stored, Met, Settled, Served, Saturated, stored_next, settled_by, settled_next, given_next, served_next}
use Rattle.definition.proofs.Completeness.Necessary.{after_given, after_from, gift_only, visited_or_due, visiting_in, visiting_of, leaf_on, leaves_of_lem, among_leaves, chain_shown, gift_on}

-- what one necessity has that visiting keeps, one has after a fork
after_some : (P : Necessity → Type 0) (t : List Node) (g : Graph) (k : Fork) → ((n : Necessity) → P n → P (visiting t g n)) → (ns : List Necessity) → Some P ns → Some P (necessities_after_possibility t g k ns)
unfolding necessities_after_possibility
after_some P t g k f ns h =
    let one : Necessity → Necessity = λ n. cond (is_reapplied t k n) (visiting t g n) n in
    some_reverse P (map one ns) (some_of_map P one ns (some_map (λ n q. cond_both P (is_reapplied t k n) (visiting t g n) n (f n q) q) ns h))

-- visiting changes what was visited, and nothing else
stored_visiting : (s : State) (x w : ℕ) (q : Form) (t : List Node) (g : Graph) (m : Necessity) → Stored s x w q m → Stored s x w q (visiting t g m)
unfolding visiting
stored_visiting s x w q t g m z = record { spawner = z.spawner; world = z.world; known = z.known; form = z.form }

module _ {F : Setting} {k : ℕ} {s : State} {p : Popped} (h : Stepping F k s p) (c : ℕ) (d : (expansion s.formulas (node_at s.nodes p.node).formula).rule ≡ as_possible c)
    (y : Saturated F s) (rooted : Each (Rooted s.nodes) s.necessities) (ground : (l : ℕ) → OpenLeaf s l → Occurs s l 0) where
  abbrev t : List Node
  t = s.nodes

  abbrev x : ℕ
  x = p.node

  abbrev w : ℕ
  w = (node_at t x).world

  abbrev g : Graph
  g = initialize_graph_if_needed F s.graph

  -- the new world
  abbrev v : ℕ
  v = g.worlds

  abbrev g' : Graph
  g' = fork F g w

  abbrev kf : Fork
  kf = record { node = x; world = v }

  abbrev r : LogicRuleResult
  r = apply_possibility F s x (expansion s.formulas (node_at s.nodes x).formula).made c

  abbrev all : List Node
  all = t ++ r.nodes

  abbrev rest : Reapplication
  rest = reapply_necessity_after_possibility t g' kf (length t + 2) s.necessities

  abbrev s' : State
  s' = after F s p

  is : apply F s x ≡ r
  unfolding apply apply_rule
  is = ap (apply_rule F s x _) d

  inside : w < v
  inside = (h.fit.bounded.sizes.labels x h.known).world

  forked : Forked F g w g'
  forked = fork_framed F g w inside y.frame

  new_graph : begun F s' ≡ g'
  unfolding checked_for_contradictions appended apply_possibility
  new_graph = ap (λ (a : LogicRuleResult). initialize_graph_if_needed F a.graph) is ∙ init_same F g' (omega (arith, forked.worlds))

  new_stored : s'.necessities ≡ necessities_after_possibility t g' kf s.necessities
  unfolding checked_for_contradictions appended apply_possibility
  new_stored = ap (λ (a : LogicRuleResult). a.necessities) is

  known : c < length s'.formulas
  known = subst (Priest.Known (length s'.formulas)) d (rule_low h)

  -- the nodes that the rule makes
  laid : LaidFrom all (length t) (new_node x c v ∷ new_node x nobody 0 ∷ rest.nodes)
  unfolding apply_possibility
  laid = laid_end t r.nodes

  laid_rest : LaidFrom all (length t + 2) rest.nodes
  laid_rest = subst (λ (n : ℕ). LaidFrom all n rest.nodes) (omega arith) laid.1.1

  -- a world that occurs on a path of the tree is an old one
  low : (l : ℕ) → In (spots t) l → (b : ℕ) → Occurs s l b → b < v
  low l i b q =
      let z = some_among (path t l) (occurs_some t (path t l) b q) in
      subst (λ (b : ℕ). b < v) z.2 (h.fit.bounded.sizes.labels z.0 (in_range t z.0 (each_among (In (spots t)) z.0 (path t l) (path_there t (tree h) l i) z.1))).world

  module _ {l : ℕ} (n : Next F s p l) where
    abbrev OldOrNew : ℕ → Type 0
    OldOrNew b = Occurs s n.from b ⊎ ((b ≡ v) × (elem x (path t n.from) ≡ true))

    -- a world of the path occurred on it before, or is the new one, and the forking node is on the path
    worlds_are : (b : ℕ) → Occurs s' l b → OldOrNew b
    unfolding apply_possibility flat
    worlds_are = worlds_next h n r is OldOrNew (λ b. inl) (
      λ on. (subst (λ (m : Node). OldOrNew m.world) (sym laid.1.0) (inl (ground n.from n.was)), (subst (λ (m : Node). OldOrNew m.world) (sym laid.0) (inr (refl, on)), tt)),
      each_by _ rest.subtrees (λ a i on.
          let m = after_from all t g' kf s.necessities (length t + 2) laid_rest a i in
          let same = leaf_on t (tree h) m.1 n.from (leaves_of_lem t (tree h) m.0 m.1 m.2) n.was.bare (subst (λ (z : ℕ). elem z (path t n.from) ≡ true) m.3.target on) in
          gift_only all t (some kf) m.0 (unvisited g' m.0) a m.1 m.3 OldOrNew (λ b o.
          ⊎_elim (λ q. inl (subst (λ (z : ℕ). Occurs s z b) same q)) (λ q. inr (q.0, subst (λ (z : ℕ). elem x (path t z) ≡ true) same q.1)) (occurs_cases t kf (path t m.1) b o))),
    )

    old_world : (b : ℕ) → b < v → Occurs s' l b → Occurs s n.from b
    old_world b l o = ⊎_elim (λ q. q) (λ q. absurd (omega arith)) (worlds_are b o)

    occurs_fork : (b : ℕ) → Occurs s' l b → occurs t (some kf) (path t n.from) b ≡ true
    occurs_fork b o =
        ⊎_elim (λ q. some_occurs t (some kf) (path t n.from) b (occurs_some t (path t n.from) b q))
        (λ q. subst (λ (b : ℕ). occurs t (some kf) (path t n.from) b ≡ true) (sym q.0) (forked_occurs t kf (path t n.from) q.1)) (worlds_are b o)

    -- the formula is shown at the new world
    new_on : elem x (path t n.from) ≡ true → On s'.formulas s'.nodes l v (form_at s'.formulas c)
    unfolding apply_possibility
    new_on on = shows_on h l x c v known (chain_shown h n r is _ (inl refl) on (suc (length t) ∷ length t ∷ []) refl (new_node x c v) (inr (inl laid.0)))

    -- where the forking node is not on the path, the path's worlds and the edges between them are as they were
    off_fork : (elem x (path t n.from) ≡ true → ⊥) → (a b : ℕ) → a < v → keeps_edges F s'.nodes (path s'.nodes l) ≡ true → edge g' a b ≡ true → Occurs s' l b →
        (keeps_edges F t (path t n.from) ≡ true) × (edge g a b ≡ true) × Occurs s n.from b
    off_fork off a b a< live e o = (
      keeps_like F s'.nodes t (path s'.nodes l) (path t n.from) back live,
      ⊎_elim (λ q. q)
          (λ q. absurd (elim (keeps_cases F s'.nodes (path s'.nodes l) live) [ inl z ↦ true_false (sym q.0 ∙ z) | inr z ↦ z.1 (omega (arith, low n.from n.was.bare.0 z.0 (back z.0 z.2))) ]))
          (forked.old a b a< (low n.from n.was.bare.0 b (back b o)) e),
      back b o,
    )
      where
        back : (b : ℕ) → Occurs s' l b → Occurs s n.from b
        back b o = ⊎_elim (λ q. q) (λ q. absurd (off q.1)) (worlds_are b o)

  -- ---- the necessities
  module _ (m : Necessity) (there : Among m s.necessities) (served : Served F s m) (root : Rooted s.nodes m) (few : m.formula < length s.formulas) where
    on_path : {l : ℕ} (n : Next F s p l) → elem m.spawner (path s'.nodes l) ≡ true → elem m.spawner (path t n.from) ≡ true
    on_path n on = sym (old_on h n m.spawner root.spawner) ∙ on

    listed : {l : ℕ} (n : Next F s p l) → elem m.spawner (path t n.from) ≡ true → Among n.from (leaves_of t m)
    listed n on = among_leaves t (tree h) m root.spawned n.from n.was.bare on

    -- one that is reapplied is given at what it had not visited
    again : is_reapplied t kf m ≡ true → Served F s' (visiting t g' m)
    unfolding visiting apply_possibility
    again re =
        record {
          world = subst (λ (a : Graph). m.world < a.worlds) (sym new_graph) (omega (arith, forked.worlds));
          low = each_by _ (visiting t g' m).visited (λ b i. subst (λ (a : Graph). b < a.worlds) (sym new_graph)
              (⊎_elim (λ q. let z = each_among (λ b. b < v) b m.visited served.low q in omega (arith, forked.worlds)) (λ q. (each_among _ b (unvisited g' m) (unvisited_each g' m) q).0) (visiting_in t g' m b i)));
          given = λ l b o on i oc.
              let n = next h l o in
              ⊎_elim (λ q. given_next h m few n b (served.given n.from b n.was (on_path n on) q (old_world n b (each_among (λ b. b < v) b m.visited served.low q) oc)))
              (λ q. gift_on h n r is (some kf) m (unvisited g' m) b (inr (after_given all t g' kf s.necessities (length t + 2) laid_rest m there re n.from (listed n (on_path n on)))) (known_next h few) q (occurs_fork n b oc)) (visiting_in t g' m b i);
          reached = λ l b o on live e oc.
              let n = next h l o in
              let e' = subst (λ (a : Graph). edge a m.world b ≡ true) new_graph e in
              visiting_of t g' m n.from b (listed n (on_path n on)) (visited_or_due g' m b (forked.framed.within m.world b e').1 e');
        }

    -- no path of another goes through the forking node
    apart : is_reapplied t kf m ≡ false → {l : ℕ} (n : Next F s p l) → elem m.spawner (path t n.from) ≡ true → elem x (path t n.from) ≡ true → ⊥
    unfolding is_reapplied
    apart e n on ox = true_false (sym (some_any (λ leaf. elem x (path t leaf)) (leaves_of t m) (among_some (λ leaf. elem x (path t leaf) ≡ true) n.from (leaves_of t m) (listed n on) ox)) ∙ e)

    served_fork : (b : Bool) → is_reapplied t kf m ≡ b → Served F s' (cond b (visiting t g' m) m)
    served_fork true e = again e
    served_fork false e =
        served_next h m few root.spawner (omega (arith, forked.worlds, ap (λ (a : Graph). a.worlds) new_graph)) (λ l n b. old_world n b)
        (λ l n b on live ed oc. off_fork n (apart e n on) m.world b served.world live (subst (λ (a : Graph). edge a m.world b ≡ true) new_graph ed) oc) served

  all_served : Each (Served F s') s'.necessities
  unfolding necessities_after_possibility
  all_served =
      let one : Necessity → Necessity = λ m. cond (is_reapplied t kf m) (visiting t g' m) m in
      subst (Each (Served F s')) (sym new_stored)
      (each_reverse (Served F s') (map one s.necessities) (each_of_map (Served F s') one s.necessities (each_by (λ m. Served F s' (one m)) s.necessities (λ m i.
      served_fork m i (each_among (Served F s) m s.necessities y.served i) (each_among (Rooted t) m s.necessities rooted i) (each_among _ m s.necessities h.fit.bounded.sizes.necessities i).0 (is_reapplied t kf m) refl))))

  taken : Settled F s' x
  unfolding written_rule
  taken =
      settled_by h (λ l n on. subst (λ (c : Rule ℕ). Met F s' l x w (written_rule (form_at s'.formulas) c)) (sym d)
      (v, λ z. omega (arith, inside), subst (λ (a : Graph). edge a w v ≡ true) (sym new_graph) forked.parent, new_on n on))

  pub saturated_possible : Saturated F (after F s p)
  saturated_possible =
      record {
        settled = settled_next h (record {
          edges = λ a b e. subst (λ (j : Graph). edge j a b ≡ true) (sym new_graph) (forked.keeps a b e);
          stored = λ z b q a. subst (Some (Stored s' z b q)) (sym new_stored) (after_some (Stored s' z b q) t g' kf (stored_visiting s' z b q t g') s.necessities (some_map (stored_next h) s.necessities a));
        }) taken y.settled;
        frame = subst (Frame F) (sym new_graph) forked.framed;
        served = all_served;
      }
