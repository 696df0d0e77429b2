-- Every state of a run that checks: the branch stands on every open path, and the state is saturated.
use mathlib.Core.Path.{◌≡◌, refl, sym, ap, ◌∙◌, subst, fun_ext}
use mathlib.Core.Bool.{false}
use mathlib.Core.List.{List, ◌∷◌, ◌++◌, map, []}
use mathlib.Core.Logic.{◌⊎◌, inl, inr}
use Prim.Native.Nat.{ℕ, zero, suc, ◌<◌, ◌≤◌, ◌+◌}
use native.Mathlib.Omega.{arith}
use borrow.Author.Tests.{ne_eqb}
use lib.ListN.{length, length-map}
use Rattle.definition.specs.Limits.{most_records}
use Rattle.definition.specs.Lists.{Each, empty, up_from, below}
use Rattle.definition.specs.Records.{Rec, nobody, marks}
use Rattle.definition.specs.Formula.{form_at}
use Rattle.definition.specs.Setting.{Setting}
use Rattle.definition.specs.Graph.{empty_graph}
use Rattle.definition.specs.Tree.{Root, Middle, Node, new_node, node_at, placed_below, is_leaf, leaves, path, set_child, child_at}
use Rattle.definition.specs.Rules.{Rule, nothing, down, split, as_possible, as_necessary, expansion}
use Rattle.definition.specs.Queue.{Popped}
use Rattle.definition.specs.Contradiction.{pairs, mark_all}
use Rattle.definition.specs.Run.{State, appended, checked_for_contradictions, step, stops, run, rooted, branch_nodes, begun, start}
use Rattle.definition.proofs.Basics.Lists.{true_false, Some, each_map, up_from_each, Full, some_map, some_reverse_aux, some_reverse, among_from, Among, each_among, each_by, some_among, among_some, zip_right}
use Rattle.definition.proofs.Tree.Nodes.{label, label_stable, chain_keeps, mark_keeps, length_marks}
use Rattle.definition.proofs.Basics.Records.{marks_known}
use Rattle.definition.proofs.Basics.Identifiers.{rising_distinct}
use Rattle.definition.proofs.Run.Queueing.{length_rooted, begun_waiting}
use Rattle.definition.proofs.Run.Popping.{Taken}
use Rattle.definition.proofs.Run.Stepping.{checked_both, checked_is, checked_length, not_stopped, step_due, run_keeps}
use Rattle.definition.proofs.Run.Counting.{known_taken}
use Rattle.definition.proofs.Run.Fullness.{step_grows}
use Rattle.definition.proofs.Basics.Forms.{WellFormed}
use Rattle.definition.specs.TreeShape.{Spot, spot, spots, placed, In, Tree, Treed, Bare}
use Rattle.definition.proofs.Tree.Shape.{in_range}
use Rattle.definition.proofs.Tree.Linking.{Free}
use Rattle.definition.proofs.Run.TreeKept.{New, append_spots, append_out, root_treed, map_new}
use Rattle.definition.proofs.Call.Room.{Fit, fit_start, fit_step}
use Rattle.definition.proofs.Paths.Pairs.{path_root, marks_same}
use Rattle.definition.proofs.Paths.Marks.{RunMarksRight, watch_start, watch_step}
use Rattle.definition.proofs.Paths.Spawners.{AllRooted, rooted_start, rooted_step}
use Rattle.definition.proofs.Completeness.On.{Says, On, OpenLeaf, on_occurs}
use Rattle.definition.proofs.Completeness.Frames.{Frame, init_framed}
use Rattle.definition.proofs.Completeness.Placed.{chain_ends, laid_end, laid_zip}
use Rattle.definition.proofs.Completeness.Queued.{Waits}
use Rattle.definition.proofs.Completeness.Steps.{Stepping, after, next, on_next}
use Rattle.definition.proofs.Completeness.Settled
use Rattle.definition.proofs.Completeness.Settled.{Occurs, Settled, Served, Saturated}
use Rattle.definition.proofs.Completeness.Here.{saturated_here}
use Rattle.definition.proofs.Completeness.Necessary.{saturated_necessary}
use Rattle.definition.proofs.Completeness.Possible.{saturated_possible}

-- ---- the branch
abbrev make : ℕ → Node
make f = new_node nobody f 0

-- every path of the branch holds every node of it
branch_path : (n : Node) (ns : List Node) → Each New ns → length (n ∷ ns) ≤ nobody → (l : ℕ) → Bare (spots (rooted (n ∷ ns))) l → (i : ℕ) → i < length (n ∷ ns) → Among i (path (rooted (n ∷ ns)) l)
unfolding rooted placed child_at set_child is_leaf
branch_path n ns fresh few l b i h =
    let root = placed_below nobody Root n ∷ [] in
    let cs = up_from (length ns) 1 in
    let treed : Treed (root ++ ns) = subst Tree (sym (append_spots root ns fresh)) (root_treed n) in
    let free = each_map {Q = Free (root ++ ns)} (λ z w. (append_out root ns fresh z w.0, omega arith, λ e. omega arith)) cs (up_from_each (length ns) 1) in
    let k = chain_ends cs (root ++ ns) 0 Middle (refl, λ x c. refl) treed (refl, refl) free (rising_distinct (length ns) 1) in
    elim (k.ends l b) [
      | inl (a, off) ↦ let e = alone l a.0 in rw (e, (k.stays 0 refl).1, path_root (root ++ ns) treed) (inl (sym (only ns i h (λ f. off f e))))
      | inr (f, e) ↦ rw (e, path_root (root ++ ns) treed) (some_reverse_aux (λ z. z ≡ i) cs (0 ∷ []) (at i h))
    ]
  where
    alone : (l : ℕ) → In (spots (placed_below nobody Root n ∷ ns)) l → l ≡ 0
    alone zero j = refl
    alone (suc l) j = true_false (sym j ∙ append_out (placed_below nobody Root n ∷ []) ns fresh (suc l) (omega arith))

    only : (ns : List Node) (i : ℕ) → i < suc (length ns) → (Full (up_from (length ns) 1) → ⊥) → i ≡ 0
    only [] i h f = omega arith
    only (m ∷ ns) i h f = absurd (f tt)

    at : (i : ℕ) → i < suc (length ns) → Among i (up_from (length ns) 1) ⊎ Among i (0 ∷ [])
    at zero h = inr (inl refl)
    at (suc i) h = inl (among_from (length ns) 1 (suc i) (omega arith) (omega arith))

branch_label : (n : Node) (ns : List Node) (i : ℕ) → label (node_at (rooted (n ∷ ns)) i) ≡ label (node_at (n ∷ ns) i)
unfolding rooted
branch_label n ns i = chain_keeps label label_stable (placed_below nobody Root n ∷ ns) 0 Middle (up_from (length ns) 1) i ∙ same i
  where
    same : (i : ℕ) → label (node_at (placed_below nobody Root n ∷ ns) i) ≡ label (node_at (n ∷ ns) i)
    same zero = refl
    same (suc i) = refl

-- the branch is on every open path, at world 0
abbrev pub Roots : List Rec → State → Type 0
Roots rs₀ s = (l : ℕ) → OpenLeaf s l → Each (λ f. On s.formulas s.nodes l 0 (form_at rs₀ f)) (marks rs₀)

branch_on : (rs : List Rec) (fs : List ℕ) → length rs ≤ most_records → Each (λ f. f < length rs) fs → length (map make fs) ≤ nobody → (l : ℕ) → Bare (spots (rooted (map make fs))) l → Each (λ f. On rs (rooted (map make fs)) l 0 (form_at rs f)) fs
branch_on rs [] small known few l b = tt
branch_on rs (f ∷ fs) small known few l b =
    let ns = map make (f ∷ fs) in
    let ids = up_from (length (f ∷ fs)) 0 in
    each_by _ (f ∷ fs) (λ g i.
    let (z, j, e) = some_among ids (zip_right _ ids (f ∷ fs) (laid_zip ns make (f ∷ fs) 0 (laid_end [] ns)) g i) in
    let low = each_among (λ g. g < length rs) g (f ∷ fs) known i in
    let at = (each_among _ z ids (up_from_each (length (f ∷ fs)) 0) j).1 in
    among_some (λ z. Says rs 0 (form_at rs g) (label (node_at (rooted ns) z))) z (path (rooted ns) l) (branch_path (make f) (map make fs) (map_new make (λ g. refl) fs) few l b z (omega (arith, length-map fs make)))
    (subst (Says rs 0 (form_at rs g)) (sym (branch_label (make f) (map make fs) z ∙ ap label e)) (record { world = refl; known = low; named = ne_eqb g nobody (omega arith); form = refl })))

module _ (F : Setting) (rs : List Rec) where
  len : length (start F rs).nodes ≡ length (branch_nodes rs)
  unfolding start begun
  len = checked_length F (begun rs) ∙ length_rooted (branch_nodes rs)

  roots_start : length rs ≤ most_records → length (start F rs).nodes ≤ nobody → Roots rs (start F rs)
  unfolding start begun branch_nodes checked_for_contradictions
  roots_start small few =
      let t = rooted (branch_nodes rs) in
      let found = pairs rs t (leaves t) in
      let on = branch_on rs (marks rs) small (each_map (λ f (h : f < 0 + length rs). omega arith) (marks rs) (marks_known rs 0)) (omega (arith, len)) in
      checked_both (Roots rs) F (begun rs) (λ l o. on l o.bare)
      (λ l o. each_map (λ f (h : On rs t l 0 (form_at rs f)).
      subst (Some (λ z. Says rs 0 (form_at rs f) (label (node_at (mark_all t found) z)))) (sym (marks_same rs t found l).same_path)
      (some_map (λ z (q : Says rs 0 (form_at rs f) (label (node_at t z))). subst (Says rs 0 (form_at rs f)) (sym (mark_keeps label (λ j n. refl) found t z)) q) (path t l) h)) (marks rs)
      (on l (subst (λ (g : ℕ → Spot). Bare g l) (fun_ext (mark_keeps spot (λ j n. refl) found t)) o.bare)))

  saturated_start : length (branch_nodes rs) ≤ nobody → Saturated F (start F rs)
  unfolding start begun empty_graph checked_for_contradictions
  saturated_start few =
      record {
        settled = λ x i. checked_both (λ (z : State). Waits z.waiting x ⊎ Settled F (start F rs) x) F (begun rs) (inl (waits x (in_range (start F rs).nodes x i))) (inl (waits x (in_range (start F rs).nodes x i)));
        frame = checked_both (λ (s : State). Frame F (Settled.begun F s)) F (begun rs) (init_framed F empty_graph (inl refl)) (init_framed F empty_graph (inl refl));
        served = checked_both (λ (s : State). Each (Served F s) s.necessities) F (begun rs) tt tt;
      }
    where
      waits : (x : ℕ) → x < length (start F rs).nodes → Waits (begun rs).waiting x
      waits x h = subst (λ (q : List ℕ). Waits q x) (sym (begun_waiting rs few)) (some_reverse (λ y. y ≡ x) (below (length (branch_nodes rs))) (among_from (length (branch_nodes rs)) 0 x (omega arith) (omega (arith, len))))

-- ---- the run
pub record Good (F : Setting) (rs₀ : List Rec) (s : State) : Type 0 where
  pub fit : Fit F (length rs₀) s
  pub watch : RunMarksRight F s
  pub rooted : AllRooted s
  pub roots : Roots rs₀ s
  pub saturated : Saturated F s

-- a step that is due takes a node that waits
pub due : (F : Setting) (s : State) → F.skip ≡ false → stops F s ≡ false → (p : Popped) × Taken s.waiting p × (step F s ≡ after F s p)
due F s skip e = let (p, k, is) = step_due F s (not_stopped F s e).0.waits in (p, k, is ∙ checked_is F (appended F s p) skip)

module _ (F : Setting) (rs₀ : List Rec) (skip : F.skip ≡ false) (marked : empty (marks rs₀) ≡ false) where
  -- world 0 occurs on every open path
  ground : (s : State) → Roots rs₀ s → (l : ℕ) → OpenLeaf s l → Occurs s l 0
  ground s r l o = go (marks rs₀) marked (r l o)
    where
      go : (fs : List ℕ) → empty fs ≡ false → Each (λ f. On s.formulas s.nodes l 0 (form_at rs₀ f)) fs → Occurs s l 0
      go [] e h = true_false e
      go (f ∷ fs) e h = on_occurs s.formulas s.nodes l 0 (form_at rs₀ f) h.0

  module _ (s : State) (g : Good F rs₀ s) (e : stops F s ≡ false) (few : length (step F s).nodes ≤ nobody) where
    stepping : (p : Popped) → Taken s.waiting p → step F s ≡ after F s p → Stepping F (length rs₀) s p
    unfolding checked_for_contradictions
    stepping p k is =
        record {
          fit = g.fit;
          going = e;
          few = omega (arith, ap (λ (z : State). length z.nodes) is, length_marks (pairs (appended F s p).formulas (appended F s p).nodes (leaves (appended F s p).nodes)) (appended F s p).nodes);
          watched = g.watch skip (omega (arith, step_grows F s));
          known = known_taken s p g.fit.bounded.known k;
          taken = k;
        }

    by_rule : (p : Popped) → Stepping F (length rs₀) s p → (c : Rule ℕ) → (expansion s.formulas (node_at s.nodes p.node).formula).rule ≡ c → Saturated F (after F s p)
    by_rule p h nothing d = saturated_here h nothing tt d g.saturated
    by_rule p h (down fs) d = saturated_here h (down fs) tt d g.saturated
    by_rule p h (split fs gs) d = saturated_here h (split fs gs) tt d g.saturated
    by_rule p h (as_possible c) d = saturated_possible h c d g.saturated (g.rooted (omega (arith, step_grows F s))) (ground s g.roots)
    by_rule p h (as_necessary c) d = saturated_necessary h c d g.saturated

    good_step : Good F rs₀ (step F s)
    good_step =
        let q = due F s skip e in
        let p = q.0 in
        let h = stepping p q.1 q.2 in
        record {
          fit = fit_step F (length rs₀) s e g.fit;
          watch = watch_step F (length rs₀) s g.fit e g.watch;
          rooted = rooted_step F (length rs₀) s g.fit e g.rooted;
          roots = subst (Roots rs₀) (sym q.2) (λ l o. let n = next h l o in each_map (λ f. on_next h n 0 (form_at rs₀ f)) (marks rs₀) (g.roots n.from n.was));
          saturated = subst (Saturated F) (sym q.2) (by_rule p h _ refl);
        }

  pub good_run : length rs₀ ≤ most_records → WellFormed rs₀ → (n : ℕ) → length (run n F (start F rs₀)).nodes ≤ nobody → Good F rs₀ (run n F (start F rs₀))
  good_run small wf n =
      run_keeps stops F (λ (s : State). length s.nodes ≤ nobody → Good F rs₀ s) (λ s e g few. good_step s (g (omega (arith, step_grows F s))) e few) n (start F rs₀)
      (λ few. record { fit = fit_start F rs₀ small wf marked; watch = watch_start F rs₀ marked; rooted = rooted_start F rs₀; roots = roots_start F rs₀ small few; saturated = saturated_start F rs₀ (omega (arith, few, len F rs₀)) })
