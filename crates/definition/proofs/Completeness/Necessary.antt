-- What necessities give: for each path a chain of nodes, one at each world that is due and occurs on it; and a step whose rule acts as Necessary.
use mathlib.Core.Path.{◌≡◌, refl, sym, ap, ◌∙◌, subst}
use mathlib.Core.Bool.{true, false, Bool, cond, not}
use mathlib.Core.List.{List, [], ◌∷◌, ◌++◌, map, append-nil}
use mathlib.Core.Option.{Option, none, some}
use mathlib.Core.Logic.{◌⊎◌, inl, inr, ⊎_elim, ⊎_map}
use Prim.Native.Nat.{ℕ, ◌<◌, ◌+◌}
use native.Mathlib.Omega.{arith}
use lib.ListN.{length, length-map}
use Rattle.definition.specs.Lists.{Each, elem, filter, up_from, below, empty}
use Rattle.definition.specs.Formula.{form_at}
use Rattle.definition.specs.Setting.{Setting}
use Rattle.definition.specs.Graph.{Graph, edge, initialize_graph_if_needed, reached}
use Rattle.definition.specs.Tree.{Node, node_at, is_leaf, leaves, path, new_node}
use Rattle.definition.specs.Rules.{Rule, as_necessary, expansion, written_rule}
use Rattle.definition.specs.Subtree.{Subtree, Targeted, with_middle, flat}
use Rattle.definition.specs.Modality.{Necessity, Fork, occurs, unvisited, leaves_of, reapply_necessity, visiting, give_on, is_reapplied, reapply_if_on_path, reapply_necessity_after_possibility}
use Rattle.definition.specs.Queue.{Popped}
use Rattle.definition.specs.Run.{State, LogicRuleResult, apply_necessity, apply_rule, apply, appended, checked_for_contradictions}
use Rattle.definition.proofs.Basics.Lists.{true_false, Some, some_map, some_among, Among, among_filter, each_by, each_among, elem_each, filter_keeps, Zip, zip_left, zip_right, either, some_append_left, some_append_right, some_cases, among_from, elem_among, filter_each, zip_nil, zip_cons}
use Rattle.definition.proofs.Tree.Nodes.{label}
use Rattle.definition.proofs.Soundness.Priest
use Rattle.definition.proofs.Soundness.Necessities.{unvisited_each}
use Rattle.definition.proofs.Soundness.Edges.{init_worlds}
use Rattle.definition.specs.TreeShape.{spots, Treed, Bare}
use Rattle.definition.proofs.Tree.Shape.{leaves_bare}
use Rattle.definition.proofs.Paths.Marks.{leaf_listed}
use Rattle.definition.specs.Shortcuts.{ThroughSpawner}
use Rattle.definition.proofs.Paths.Spawners.{path_inner, stored_spawned}
use Rattle.definition.proofs.Paths.Pairs.{elem_self}
use Rattle.definition.proofs.Completeness.On.{On}
use Rattle.definition.proofs.Completeness.Frames.{Frame, init_same}
use Rattle.definition.proofs.Completeness.Placed.{middle_pick, LaidFrom, laid_end, laid_left, laid_right, laid_zip, Pick, Shows}
use Rattle.definition.proofs.Completeness.Steps.{Stepping, after, Shown, Next, next, tree, rule_low, old_on, shows_on, worlds_next}
use Rattle.definition.proofs.Completeness.Settled.{begun, Occurs, Stored, Met, Settled, Served, Saturated, stored_next, settled_by, settled_next, still_edges, served_still}

-- ---- what is given
module _ (w : List Node) where
  -- the subtree a is what the necessity n gives on the path of l
  pub record Gift (t : List Node) (k : Option Fork) (n : Necessity) (worlds : List ℕ) (a : Targeted) (l : ℕ) : Type 0 where
    pub target : a.target ≡ l
    pub chain : List ℕ
    pub is : a.subtree ≡ with_middle chain
    pub nodes : Zip (λ z v. node_at w z ≡ new_node n.spawner n.formula v) chain (filter (occurs t k (path t l)) worlds)

  give_gifts : (t : List Node) (k : Option Fork) (n : Necessity) (worlds ls : List ℕ) (next : ℕ) → LaidFrom w next (give_on t k n worlds next ls).nodes → Zip (Gift t k n worlds) (give_on t k n worlds next ls).subtrees ls
  unfolding give_on
  give_gifts t k n worlds [] next h = zip_nil
  give_gifts t k n worlds (l ∷ ls) next h =
      let here = filter (occurs t k (path t l)) worlds in
      let make = new_node n.spawner n.formula in
      zip_cons (record { target = refl; chain = up_from (length here) next; is = refl; nodes = laid_zip w make here next (laid_left w next (map make here) _ h) })
      (give_gifts t k n worlds ls (next + length here) (laid_right w next _ (map make here) _ (omega (arith, length-map here make)) h))

  -- after a fork: each necessity that is reapplied gives on each of its paths, and nothing else is given
  module _ (t : List Node) (g : Graph) (k : Fork) where
    abbrev pub ForkGift : Necessity → Targeted → ℕ → Type 0
    ForkGift n = Gift t (some k) n (unvisited g n)

    gifts_if : (b : Bool) (next : ℕ) (n : Necessity) → let one = cond b (reapply_necessity t g (some k) next n) (record { nodes = []; subtrees = [] }) in
        LaidFrom w next one.nodes → Zip (ForkGift n) one.subtrees (cond b (leaves_of t n) [])
    unfolding reapply_necessity
    gifts_if true next n h = give_gifts t (some k) n (unvisited g n) (leaves_of t n) next h
    gifts_if false next n h = zip_nil

    pub after_given : (ns : List Necessity) (next : ℕ) → LaidFrom w next (reapply_necessity_after_possibility t g k next ns).nodes → (n : Necessity) → Among n ns → is_reapplied t k n ≡ true → (l : ℕ) → Among l (leaves_of t n) →
        Some (λ a. ForkGift n a l) (reapply_necessity_after_possibility t g k next ns).subtrees
    unfolding reapply_necessity_after_possibility reapply_if_on_path
    after_given [] next h n i e l j = absurd i
    after_given (m ∷ ns) next h n (inl q) e l j =
        let one = reapply_if_on_path t g k next m in
        let gifts = zip_right (ForkGift m) one.subtrees _ (gifts_if (is_reapplied t k m) next m (laid_left w next one.nodes _ h)) l (rw (q, e) j) in
        some_append_left _ one.subtrees _ (subst (λ (n : Necessity). Some (λ a. ForkGift n a l) one.subtrees) q gifts)
    after_given (m ∷ ns) next h n (inr i) e l j =
        let one = reapply_if_on_path t g k next m in
        some_append_right _ one.subtrees _ (after_given ns (next + length one.nodes) (laid_right w next _ one.nodes _ refl h) n i e l j)

    pub after_from : (ns : List Necessity) (next : ℕ) → LaidFrom w next (reapply_necessity_after_possibility t g k next ns).nodes → (a : Targeted) → Among a (reapply_necessity_after_possibility t g k next ns).subtrees →
        (n : Necessity) × (l : ℕ) × Among l (leaves_of t n) × ForkGift n a l
    unfolding reapply_necessity_after_possibility reapply_if_on_path
    after_from [] next h a i = absurd i
    after_from (m ∷ ns) next h a i =
        let one = reapply_if_on_path t g k next m in
        let ls = cond (is_reapplied t k m) (leaves_of t m) [] in
        elim (some_cases _ one.subtrees _ i) [
          | inl q ↦
              let (l, j, gift) = some_among ls (zip_left (ForkGift m) one.subtrees ls (gifts_if (is_reapplied t k m) next m (laid_left w next one.nodes _ h)) a q) in
              (m, l, kept l (is_reapplied t k m) j, gift)
          | inr q ↦ after_from ns (next + length one.nodes) (laid_right w next _ one.nodes _ refl h) a q
        ]
      where
        kept : (l : ℕ) (b : Bool) → Among l (cond b (leaves_of t m) []) → Among l (leaves_of t m)
        kept l true q = q
        kept l false q = absurd q

-- ---- the worlds of a gift
module _ (w t : List Node) (k : Option Fork) (n : Necessity) (worlds : List ℕ) (a : Targeted) (l : ℕ) (g : Gift w t k n worlds a l) where
  -- a node at every world that is due and occurs
  gift_has : (v : ℕ) → Among v worlds → occurs t k (path t l) v ≡ true → Some (λ c. node_at w c ≡ new_node n.spawner n.formula v) g.chain
  gift_has v i o = zip_right _ g.chain (filter (occurs t k (path t l)) worlds) g.nodes v (among_filter (occurs t k (path t l)) v worlds o i)

  -- and at no other
  pub gift_only : (Q : ℕ → Type 0) → ((v : ℕ) → occurs t k (path t l) v ≡ true → Q v) → Each (λ c. Q (node_at w c).world) (flat a.subtree)
  unfolding flat
  gift_only Q f =
      subst (λ (s : Subtree). Each (λ c. Q (node_at w c).world) (flat s)) (sym g.is)
      (each_by (λ c. Q (node_at w c).world) (g.chain ++ []) (λ c i.
      let z = some_among (filter (occurs t k (path t l)) worlds) (zip_left _ g.chain (filter (occurs t k (path t l)) worlds) g.nodes c (subst (Among c) (append-nil g.chain) i)) in
      subst (λ (m : Node). Q m.world) (sym z.2) (f z.0 (each_among (λ v. occurs t k (path t l) v ≡ true) z.0 (filter (occurs t k (path t l)) worlds) (filter_each (occurs t k (path t l)) worlds) z.1))))

-- ---- what is visited
-- a world that is reached was visited, or is due
pub visited_or_due : (g : Graph) (n : Necessity) (v : ℕ) → v < g.worlds → edge g n.world v ≡ true → Among v n.visited ⊎ Among v (unvisited g n)
unfolding unvisited reached
visited_or_due g n v l e =
    ⊎_map (elem_among v n.visited) (λ o. among_filter _ v (filter (edge g n.world) (below g.worlds)) (ap not o) (among_filter (edge g n.world) v (below g.worlds) e (among_from g.worlds 0 v (omega arith) (omega arith))))
    (either (elem v n.visited))

pub visiting_in : (t : List Node) (g : Graph) (n : Necessity) (v : ℕ) → Among v (visiting t g n).visited → Among v n.visited ⊎ Among v (unvisited g n)
unfolding visiting
visiting_in t g n v i = ⊎_map (λ q. q) (due (empty (leaves_of t n))) (some_cases _ n.visited _ i)
  where
    due : (b : Bool) → Among v (cond b [] (unvisited g n)) → Among v (unvisited g n)
    due true q = absurd q
    due false q = q

pub visiting_of : (t : List Node) (g : Graph) (n : Necessity) (l v : ℕ) → Among l (leaves_of t n) → Among v n.visited ⊎ Among v (unvisited g n) → Among v (visiting t g n).visited
unfolding visiting
visiting_of t g n l v i h = ⊎_elim (some_append_left _ n.visited _) (λ q. some_append_right _ n.visited _ (due (leaves_of t n) i q)) h
  where
    due : (ls : List ℕ) → Among l ls → Among v (unvisited g n) → Among v (cond (empty ls) [] (unvisited g n))
    due [] j q = absurd j
    due (x ∷ ls) j q = q

-- ---- leaves of a necessity
-- a leaf on the path of a leaf is that leaf
pub leaf_on : (t : List Node) → Treed t → (l m : ℕ) → Bare (spots t) l → Bare (spots t) m → elem l (path t m) ≡ true → l ≡ m
leaf_on t r l m b c e = ⊎_elim (λ q. q) (λ q. true_false (sym b.1 ∙ q)) (elem_each (λ z. (z ≡ m) ⊎ (is_leaf (node_at t z).children ≡ false)) l (path t m) e (path_inner t r m c.0))

pub leaves_of_lem : (t : List Node) → Treed t → (n : Necessity) (l : ℕ) → Among l (leaves_of t n) → Bare (spots t) l
unfolding leaves_of
leaves_of_lem t r n l i = each_among (Bare (spots t)) l (leaves_of t n) (filter_keeps (Bare (spots t)) _ (leaves t) (leaves_bare t r)) i

pub among_leaves : (t : List Node) → Treed t → (n : Necessity) → ThroughSpawner t n → (l : ℕ) → Bare (spots t) l → elem n.spawner (path t l) ≡ true → Among l (leaves_of t n)
unfolding leaves_of
among_leaves t r n spawned l b on = among_filter _ l (leaves t) (spawned l b ∙ on) (leaf_listed t r l b)

-- ---- a gift on the path of a leaf
module _ {F : Setting} {k : ℕ} {s : State} {p : Popped} (h : Stepping F k s p) {l : ℕ} (n : Next F s p l) (r : LogicRuleResult) (is : apply F s p.node ≡ r) where
  -- a chain that has the node m is shown, if its target is on the path
  pub chain_shown : (a : Targeted) → Among a r.subtrees → elem a.target (path s.nodes n.from) ≡ true → (cs : List ℕ) → a.subtree ≡ with_middle cs → (m : Node) → Some (λ c. node_at (s.nodes ++ r.nodes) c ≡ m) cs →
      Shows (appended F s p).nodes (path (appended F s p).nodes l) (label m)
  chain_shown a i on cs e m has =
      let u = (appended F s p).nodes in
      let v = s.nodes ++ r.nodes in
      let shown = subst (λ (a : LogicRuleResult). Shown s a u (path u l) (path s.nodes n.from)) is n.shows in
      let side = each_among _ a r.subtrees shown i on in
      let c = some_among cs has in
      subst (λ (m : Node). Shows u (path u l) (label m)) c.2
      (each_among (λ c. Shows u (path u l) (label (node_at v c))) c.0 cs (subst (Each (λ c. Shows u (path u l) (label (node_at v c)))) (middle_pick cs side.0 (subst (λ (s : Subtree). Pick s side.0) e side.1)) side.2) c.1)

  pub gift_on : (f : Option Fork) (m : Necessity) (worlds : List ℕ) (v : ℕ) → Some (λ a. Gift (s.nodes ++ r.nodes) s.nodes f m worlds a n.from) r.subtrees → m.formula < length (after F s p).formulas → Among v worlds →
      occurs s.nodes f (path s.nodes n.from) v ≡ true → On (after F s p).formulas (after F s p).nodes l v (form_at (after F s p).formulas m.formula)
  gift_on f m worlds v g low i o =
      let a = some_among r.subtrees g in
      shows_on h l m.spawner m.formula v low
      (chain_shown a.0 a.1 (subst (λ (y : ℕ). elem y (path s.nodes n.from) ≡ true) (sym a.2.target) (elem_self s.nodes (tree h) n.from n.was.bare.0)) a.2.chain a.2.is _
      (gift_has (s.nodes ++ r.nodes) s.nodes f m worlds a.0 n.from a.2 v i o))

-- ---- the step
module _ {F : Setting} {k : ℕ} {s : State} {p : Popped} (h : Stepping F k s p) (c : ℕ) (d : (expansion s.formulas (node_at s.nodes p.node).formula).rule ≡ as_necessary c) where
  abbrev t : List Node
  t = s.nodes

  abbrev x : ℕ
  x = p.node

  abbrev g : Graph
  g = initialize_graph_if_needed F s.graph

  abbrev n₁ : Necessity
  n₁ = record { formula = c; world = (node_at t x).world; spawner = x; leaves = filter (λ leaf. elem x (path t leaf)) (leaves t); visited = [] }

  abbrev r : LogicRuleResult
  r = apply_necessity F s x (expansion s.formulas (node_at t x).formula).made c

  abbrev s' : State
  s' = after F s p

  is : apply F s x ≡ r
  unfolding apply apply_rule
  is = ap (apply_rule F s x _) d

  same_graph : begun F s' ≡ g
  unfolding checked_for_contradictions appended apply_necessity
  same_graph = ap (λ (a : LogicRuleResult). initialize_graph_if_needed F a.graph) is ∙ init_same F g (init_worlds F s.graph).0

  new_stored : s'.necessities ≡ visiting t g n₁ ∷ s.necessities
  unfolding checked_for_contradictions appended apply_necessity
  new_stored = ap (λ (a : LogicRuleResult). a.necessities) is

  known : c < length s'.formulas
  known = subst (Priest.Known (length s'.formulas)) d (rule_low h)

  gifts : Zip (Gift (t ++ r.nodes) t none n₁ (unvisited g n₁)) r.subtrees (leaves_of t n₁)
  unfolding apply_necessity reapply_necessity
  gifts = give_gifts (t ++ r.nodes) t none n₁ (unvisited g n₁) (leaves_of t n₁) (length t) (laid_end t r.nodes)

  -- no world is new on a path
  old : (l : ℕ) (n : Next F s p l) (v : ℕ) → Occurs s' l v → Occurs s n.from v
  old l n =
      worlds_next h n r is (Occurs s n.from) (λ v a. a) (each_by _ r.subtrees (λ a i on.
      let m = some_among (leaves_of t n₁) (zip_left _ r.subtrees (leaves_of t n₁) gifts a i) in
      let same = leaf_on t (tree h) m.0 n.from (leaves_of_lem t (tree h) n₁ m.0 m.1) n.was.bare (subst (λ (y : ℕ). elem y (path t n.from) ≡ true) m.2.target on) in
      gift_only (t ++ r.nodes) t none n₁ (unvisited g n₁) a m.0 m.2 (Occurs s n.from) (λ v. subst (λ (y : ℕ). Occurs s y v) same)))

  listed : {l : ℕ} (n : Next F s p l) → elem x (path t n.from) ≡ true → Among n.from (leaves_of t n₁)
  listed n on = among_leaves t (tree h) n₁ (stored_spawned t (tree h) n₁ refl) n.from n.was.bare on

  new_served : Frame F g → Served F s' (visiting t g n₁)
  unfolding visiting
  new_served frame =
      record {
        world = subst (λ (a : Graph). (node_at t x).world < a.worlds) (sym same_graph) (h.fit.bounded.sizes.labels x h.known).world;
        low = each_by _ (visiting t g n₁).visited (λ v i. subst (λ (a : Graph). v < a.worlds) (sym same_graph) (each_among _ v (unvisited g n₁) (unvisited_each g n₁) (due v i)).0);
        given = λ l v o on i oc. let n = next h l o in gift_on h n r is none n₁ (unvisited g n₁) v (zip_right _ r.subtrees (leaves_of t n₁) gifts n.from (listed n (sym (old_on h n x h.known) ∙ on))) known (due v i) (old l n v oc);
        reached = λ l v o on live e oc.
            let n = next h l o in
            let e' = subst (λ (a : Graph). edge a n₁.world v ≡ true) same_graph e in
            visiting_of t g n₁ n.from v (listed n (sym (old_on h n x h.known) ∙ on)) (visited_or_due g n₁ v (frame.within n₁.world v e').1 e');
      }
    where
      due : (v : ℕ) → Among v (visiting t g n₁).visited → Among v (unvisited g n₁)
      due v i = ⊎_elim (λ q. absurd q) (λ q. q) (visiting_in t g n₁ v i)

  taken : Settled F s' x
  unfolding visiting written_rule
  taken =
      settled_by h (λ l n on. subst (λ (c : Rule ℕ). Met F s' l x (node_at t x).world (written_rule (form_at s'.formulas) c)) (sym d)
      (subst (Some (Stored s' x (node_at t x).world (form_at s'.formulas c))) (sym new_stored) (inl (record { spawner = refl; world = refl; known = known; form = refl }))))

  pub saturated_necessary : Saturated F s → Saturated F (after F s p)
  saturated_necessary y =
      record {
        settled = settled_next h (record { edges = still_edges h same_graph old; stored = λ z v q a. subst (Some (Stored s' z v q)) (sym new_stored) (inr (some_map (stored_next h) s.necessities a)) }) taken y.settled;
        frame = subst (Frame F) (sym same_graph) y.frame;
        served = subst (Each (Served F s')) (sym new_stored) (new_served y.frame, served_still h same_graph old y.served);
      }
