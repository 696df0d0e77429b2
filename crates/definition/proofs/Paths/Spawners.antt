-- A stored necessity's paths are those through its spawner: its path leaves were all the leaves below it, and what grew since stands below them.
use mathlib.Core.Path.{◌≡◌, refl, sym, ap, ◌∙◌, subst, fun_ext}
use mathlib.Core.Bool.{Bool, true, false, cond}
use mathlib.Core.List.{List, ◌∷◌, ◌++◌, map, []}
use mathlib.Core.Option.{Option}
use mathlib.Core.Logic.{◌⊎◌, inl, inr, ⊎_elim, ◌≢◌}
use Prim.Native.Nat.{ℕ, ◌<◌, ◌≤◌}
use native.Mathlib.Omega.{arith}
use lib.Dec.{ltb}
use borrow.Author.Tests.{ltb-true, ltb-false}
use lib.ListN.{length}
use Rattle.definition.specs.Lists.{Each, any, elem, filter, empty}
use Rattle.definition.specs.Records.{nobody, Rec}
use Rattle.definition.specs.Setting.{Setting}
use Rattle.definition.specs.Graph.{Graph}
use Rattle.definition.specs.Tree.{Node, node_at, is_leaf, leaves, path}
use Rattle.definition.specs.Rules.{Rule, nothing, down, split, as_possible, as_necessary, expansion}
use Rattle.definition.specs.Contradiction.{Pair, mark_all, pairs}
use Rattle.definition.specs.Modality.{Necessity, Fork, unvisited, runs_through, leaves_of, is_reapplied, visiting, necessities_after_possibility}
use Rattle.definition.specs.Queue.{Popped}
use Rattle.definition.specs.Run.{State, apply_here, apply_possibility, apply_necessity, apply_rule, apply, checked_for_contradictions, check_for_contradictions, appended, step, stops, begun, start}
use Rattle.definition.proofs.Basics.Lists.{true_false, either, not_true_false, cond_both, some_each, some_pick, any_some, elem_each, each_map, each_any, each_of_map, each_reverse, each_filter, filter_keeps, some_any, among_filter, elem_high, same_both}
use Rattle.definition.proofs.Tree.Nodes.{mark_keeps, length_marks}
use Rattle.definition.proofs.Run.Stepping.{checked_both, step_keeps}
use Rattle.definition.proofs.Run.Counting.{known_taken}
use Rattle.definition.specs.TreeShape.{Spot, spot, spots, placed, In, Treed, Bare}
use Rattle.definition.proofs.Tree.Shape.{in_out, leaves_bare, leaves_within}
use Rattle.definition.proofs.Tree.Linking.{bare_room}
use Rattle.definition.proofs.Call.Room.{Fit, ready}
use Rattle.definition.proofs.Paths.Pairs.{climbing, path_below, path_root, elem_self, marks_same, Stem, Grown, grown_path, appended_grown}
use Rattle.definition.proofs.Paths.Takers.{Hung, NewPath, new_path, bare_before}
use Rattle.definition.proofs.Paths.Marks.{leaf_listed, appended_hung}
use Rattle.definition.specs.Shortcuts.{ThroughSpawner}

module _ (t : List Node) (r : Treed t) where
  -- a path's nodes above its end have a child
  pub path_inner : (l : ℕ) → In (spots t) l → Each (λ z. (z ≡ l) ⊎ (is_leaf (node_at t z).children ≡ false)) (path t l)
  path_inner =
      climbing t r (λ l. Each (λ z. (z ≡ l) ⊎ (is_leaf (node_at t z).children ≡ false)) (path t l)) (rw (path_root t r) (inl refl, tt))
      (λ l i j up. rw (path_below t r l i) (
        inl refl,
        each_map {Q = λ z. (z ≡ l) ⊎ (is_leaf (node_at t z).children ≡ false)} (λ z (h : (z ≡ (node_at t l).parent) ⊎ (is_leaf (node_at t z).children ≡ false)).
            inr (⊎_elim (λ (e : z ≡ (node_at t l).parent). rw e (has_child l i j)) (λ e. e) h)) (path t (node_at t l).parent) up,
      ))
    where
      has_child : (l : ℕ) → In (spots t) l → In (spots t) (node_at t l).parent → is_leaf (node_at t (node_at t l).parent).children ≡ false
      has_child l i j =
          not_true_false (is_leaf (node_at t (node_at t l).parent).children) (λ b.
          let rooted : l ≢ 0 = λ e. in_out (spots t) (node_at t l).parent nobody j r.nobody_out (ap (λ (z : ℕ). (node_at t z).parent) e ∙ r.orphan) in
          in_out (spots t) l nobody i r.nobody_out (sym (r.above l i rooted).child ∙ bare_room (node_at t l).place (node_at t (node_at t l).parent).children b))

  -- a necessity as it is stored
  pub stored_spawned : (n : Necessity) → n.leaves ≡ filter (λ leaf. elem n.spawner (path t leaf)) (leaves t) → ThroughSpawner t n
  unfolding runs_through
  stored_spawned n e l b = rw e (same_both _ _ to from)
    where
      x : ℕ
      x = n.spawner

      through : ℕ → Bool
      through leaf = elem x (path t leaf)

      to : any (λ y. elem y (path t l)) (filter through (leaves t)) ≡ true → through l ≡ true
      to h =
          let ls = filter through (leaves t) in
          let k = some_pick ls (some_each {R = λ y. (elem y (path t l) ≡ true) × (Bare (spots t) y × (through y ≡ true))} (λ y a c. (a, c)) ls (any_some (λ y. elem y (path t l)) ls h) (each_filter (Bare (spots t)) through (leaves t) (leaves_bare t r))) in
          let y = k.0 in
          let same : y ≡ l = ⊎_elim (λ q. q) (λ q. true_false (sym k.1.1.0.1 ∙ q)) (elem_each (λ z. (z ≡ l) ⊎ (is_leaf (node_at t z).children ≡ false)) y (path t l) k.1.0 (path_inner l b.0)) in
          subst (λ z. through z ≡ true) same k.1.1.1

      from : through l ≡ true → any (λ y. elem y (path t l)) (filter through (leaves t)) ≡ true
      from h =
          let ls = filter through (leaves t) in
          some_any (λ y. elem y (path t l)) ls
          (some_each {R = λ y. elem y (path t l) ≡ true} (λ y (q : y ≡ l) (u : Unit {0}). rw q (elem_self t r l b.0)) ls (among_filter through l (leaves t) h (leaf_listed t r l b)) (each_any (λ y. Unit {0}) (λ y. tt) ls))

any_like : (p q : ℕ → Bool) (xs : List ℕ) → Each (λ x. p x ≡ q x) xs → any p xs ≡ any q xs
any_like p q [] h = refl
any_like p q (x ∷ xs) h = rw (h.0, any_like p q xs h.1)

-- ---- what grows below leaves
module _ (t t' : List Node) (r : Treed t) (r' : Treed t') (g : Grown t t') (h : Hung t t') where
  -- a necessity whose numbers are old
  pub record Old (n : Necessity) : Type 0 where
    pub spawner : n.spawner < length t
    pub leaves : Each (λ y. y < length t) n.leaves

  over_high : (x : ℕ) → x < length t → (new : List ℕ) → Each (λ z. length t ≤ z) new → Each (λ z. z ≢ x) new
  over_high x low new high = each_map {Q = λ z. z ≢ x} (λ z (a : length t ≤ z) e. omega (arith, low, a, e)) new high

  grown_spawned : (n : Necessity) → Old n → ThroughSpawner t n → ThroughSpawner t' n
  unfolding runs_through
  grown_spawned n o s l b = ⊎_elim (λ q. old (ltb-true l (length t) q)) (λ q. new (new_path t t' r r' g h l b.0 (ltb-false l (length t) q))) (either (ltb l (length t)))
    where
      old : l < length t → any (λ y. elem y (path t' l)) n.leaves ≡ elem n.spawner (path t' l)
      old q =
          let i : In (spots t) l = sym (ap (λ (v : Stem). placed v.place) (g.stems l q)) ∙ b.0 in
          rw (grown_path t t' r g l i) (s l (i, bare_before t t' r g r' l i b.1))

      new : NewPath t t' l → any (λ y. elem y (path t' l)) n.leaves ≡ elem n.spawner (path t' l)
      new p =
          rw p.is (any_like (λ y. elem y (p.new ++ path t p.leaf)) (λ y. elem y (path t p.leaf)) n.leaves
          (each_map {Q = λ y. elem y (p.new ++ path t p.leaf) ≡ elem y (path t p.leaf)} (λ y (low : y < length t). elem_high y p.new (path t p.leaf) (over_high y low p.new p.high)) n.leaves o.leaves)
          ∙ s p.leaf p.taker.bare ∙ sym (elem_high n.spawner p.new (path t p.leaf) (over_high n.spawner o.spawner p.new p.high)))

-- marks change no path
marked_spawned : (rs : List Rec) (t : List Node) (ps : List (Option Pair)) (n : Necessity) → ThroughSpawner t n → ThroughSpawner (mark_all t ps) n
marked_spawned rs t ps n h l b =
    let stands : spots (mark_all t ps) ≡ spots t = fun_ext (mark_keeps spot (λ j v. refl) ps t) in
    rw (marks_same rs t ps l).same_path (h l (subst (λ (v : ℕ → Spot). Bare v l) stands b))

-- ---- what a rule leaves of the necessities
module _ (P : Necessity → Type 0) (visits : (n : Necessity) (vs : List ℕ) → P n → P (record { formula = n.formula; world = n.world; spawner = n.spawner; leaves = n.leaves; visited = vs })) where
  visiting_stored : (t : List Node) (g : Graph) (n : Necessity) → P n → P (visiting t g n)
  unfolding visiting
  visiting_stored t g n p = visits n (n.visited ++ cond (empty (leaves_of t n)) [] (unvisited g n)) p

  after_stored : (t : List Node) (g : Graph) (k : Fork) (ns : List Necessity) → Each P ns → Each P (necessities_after_possibility t g k ns)
  unfolding necessities_after_possibility
  after_stored t g k ns h =
      let f : Necessity → Necessity = λ n. cond (is_reapplied t k n) (visiting t g n) n in
      each_reverse P (map f ns) (each_of_map P f ns (each_map {Q = λ n. P (f n)} (λ n p. cond_both P (is_reapplied t k n) (visiting t g n) n (visiting_stored t g n p) p) ns h))

  rule_stored : (F : Setting) (s : State) (x : ℕ) (more : List Rec) (rule : Rule ℕ) → Each P s.necessities →
      ((n : Necessity) → n.spawner ≡ x → n.leaves ≡ filter (λ leaf. elem x (path s.nodes leaf)) (leaves s.nodes) → P n) → Each P (apply_rule F s x more rule).necessities
  unfolding apply_rule apply_here apply_possibility apply_necessity
  rule_stored F s x more nothing h k = h
  rule_stored F s x more (down fs) h k = h
  rule_stored F s x more (split fs gs) h k = h
  rule_stored F s x more (as_possible f) h k = after_stored s.nodes _ _ s.necessities h
  rule_stored F s x more (as_necessary f) h k =
      let t = s.nodes in
      let n : Necessity = record { formula = f; world = (node_at t x).world; spawner = x; leaves = filter (λ leaf. elem x (path t leaf)) (leaves t); visited = [] } in
      (visiting_stored t _ n (k n refl refl), h)

-- ---- every state of a run
pub record Rooted (t : List Node) (n : Necessity) : Type 0 where
  pub spawned : ThroughSpawner t n
  pub spawner : n.spawner < length t
  pub leaves : Each (λ y. y < length t) n.leaves

abbrev pub AllRooted : State → Type 0
AllRooted s = length s.nodes ≤ nobody → Each (Rooted s.nodes) s.necessities

rooted_checked : (F : Setting) (s : State) → AllRooted s → AllRooted (check_for_contradictions F s)
unfolding checked_for_contradictions
rooted_checked F s h =
    checked_both AllRooted F s h (λ few.
    let found = pairs s.formulas s.nodes (leaves s.nodes) in
    let size = length_marks found s.nodes in
    each_map {Q = Rooted (mark_all s.nodes found)} (λ n (k : Rooted s.nodes n). record {
      spawned = marked_spawned s.formulas s.nodes found n k.spawned;
      spawner = omega (arith, k.spawner, size);
      leaves = each_map {Q = λ y. y < length (mark_all s.nodes found)} (λ y (l : y < length s.nodes). omega (arith, l, size)) n.leaves k.leaves;
    }) s.necessities (h (omega (arith, few, size))))

module _ (F : Setting) (k : ℕ) (s : State) (p : Popped) (h : Fit F k s) (e : stops F s ≡ false) (x : p.node < length s.nodes) where
  rooted_appended : AllRooted s → AllRooted (appended F s p)
  unfolding appended apply runs_through
  rooted_appended a few =
      let t = s.nodes in
      let u = (appended F s p).nodes in
      let r = ready F k s h e in
      let g = appended_grown F s p in
      let hung = appended_hung F k s p h e few in
      let made = expansion s.formulas (node_at t p.node).formula in
      each_map {Q = Rooted u} (λ n (o : Rooted t n). record {
        spawned = grown_spawned t u r.treed hung.0 g hung.1 n (record { spawner = o.spawner; leaves = o.leaves }) o.spawned;
        spawner = omega (arith, o.spawner, g.longer);
        leaves = each_map {Q = λ y. y < length u} (λ y (l : y < length t). omega (arith, l, g.longer)) n.leaves o.leaves;
      }) (apply_rule F s p.node made.made made.rule).necessities
      (rule_stored (Rooted t) (λ n vs o. record { spawned = o.spawned; spawner = o.spawner; leaves = o.leaves }) F s p.node made.made made.rule
      (a (omega (arith, r.nodes)))
      (λ n q d. record {
        spawned = stored_spawned t r.treed n (rw q d);
        spawner = omega (arith, x, q);
        leaves = rw d (filter_keeps (λ y. y < length t) _ (leaves t) (leaves_within t r.treed));
      }))

pub rooted_start : (F : Setting) (rs : List Rec) → AllRooted (start F rs)
unfolding start begun
rooted_start F rs = rooted_checked F (begun rs) (λ few. tt)

pub rooted_step : (F : Setting) (k : ℕ) (s : State) → Fit F k s → stops F s ≡ false → AllRooted s → AllRooted (step F s)
rooted_step F k s h e a = step_keeps F s AllRooted (λ p t. rooted_appended F k s p h e (known_taken s p h.bounded.known t) a) (rooted_checked F) a
