-- What a step may rely on, at every state of a run: room for what it makes, and a tree.
use mathlib.Core.Path.{◌≡◌}
use mathlib.Core.Bool.{false, cond}
use mathlib.Core.List.{List, [], ◌∷◌, map}
use Prim.Native.Nat.{ℕ, suc, ◌+◌, ◌<◌, ◌≤◌}
use native.Mathlib.Omega.{arith}
use lib.ListN.{length, length-map, length-reverse}
use Rattle.definition.specs.Limits.{most_records, most_identifiers, graph_width, most_formulas}
use Rattle.definition.specs.Lists.{empty}
use Rattle.definition.specs.Records.{Rec, marks}
use Rattle.definition.specs.Setting.{Setting}
use Rattle.definition.specs.Graph.{Graph}
use Rattle.definition.specs.Tree.{Node, node_at, leaves}
use Rattle.definition.specs.Rules.{Rule, nothing, down, split, as_possible, as_necessary, expansion}
use Rattle.definition.specs.Modality.{Necessity, Fork, is_reapplied, visiting, necessities_after_possibility}
use Rattle.definition.specs.Queue.{Popped}
use Rattle.definition.specs.Run.{State, apply_here, apply_possibility, apply_necessity, apply_rule, apply, checked_for_contradictions, check_for_contradictions, appended, step, stops, begun, start}
use Rattle.definition.proofs.Basics.Lists.{true_false, each_any}
use Rattle.definition.proofs.Run.Stepping.{checked_both, not_stopped, not_full, step_keeps}
use Rattle.definition.proofs.Run.Counting.{Counted}
use Rattle.definition.specs.TreeShape.{Treed}
use Rattle.definition.proofs.Tree.Shape.{leaves_few}
use Rattle.definition.proofs.Run.TreeKept.{step_tree, start_treed}
use Rattle.definition.proofs.Basics.Forms.{WellFormed}
use Rattle.definition.proofs.Call.Bounds.{stop_fits, Bounded, start_bounded, bounded_step}

-- a rule stores one necessity at most
few_after : (t : List Node) (g : Graph) (k : Fork) (ns : List Necessity) → length (necessities_after_possibility t g k ns) ≤ suc (length ns)
unfolding necessities_after_possibility
few_after t g k ns =
    let f : Necessity → Necessity = λ n. cond (is_reapplied t k n) (visiting t g n) n in
    omega (arith, length-reverse (map f ns), length-map ns f)

few_rule : (F : Setting) (s : State) (x : ℕ) (more : List Rec) (r : Rule ℕ) → length (apply_rule F s x more r).necessities ≤ suc (length s.necessities)
unfolding apply_rule apply_here apply_possibility apply_necessity
few_rule F s x more nothing = omega arith
few_rule F s x more (down fs) = omega arith
few_rule F s x more (split fs gs) = omega arith
few_rule F s x more (as_possible f) = few_after _ _ _ s.necessities
few_rule F s x more (as_necessary f) = omega arith

-- so they are no more than the steps
abbrev Stored : State → Type 0
Stored s = length s.necessities ≤ s.steps

stored_checked : (F : Setting) (s : State) → Stored s → Stored (check_for_contradictions F s)
unfolding checked_for_contradictions
stored_checked F s h = checked_both Stored F s h h

stored_appended : (F : Setting) (s : State) (p : Popped) → Stored s → Stored (appended F s p)
unfolding appended apply
stored_appended F s p h =
    let e = expansion s.formulas (node_at s.nodes p.node).formula in
    omega (arith, h, few_rule F s p.node e.made e.rule)

stored_step : (F : Setting) (s : State) → Stored s → Stored (step F s)
stored_step F s h = step_keeps F s Stored (λ p k. stored_appended F s p h) (stored_checked F) h

abbrev Any : Rec → Type 0
Any r = Unit {0}

-- what holds of every state of a run over k records
pub record Fit (F : Setting) (k : ℕ) (s : State) : Type 0 where
  pub small : k ≤ most_records
  pub bounded : Bounded Any (λ r q. tt) F k s
  pub stored : Stored s
  pub treed : length s.nodes ≤ most_identifiers → Treed s.nodes

room : (F : Setting) (s : State) → stops F s ≡ false → length s.nodes ≤ most_identifiers
room F s e = not_full s (not_stopped F s e).1

pub fit_step : (F : Setting) (k : ℕ) (s : State) → stops F s ≡ false → Fit F k s → Fit F k (step F s)
fit_step F k s e h =
    record {
      small = h.small;
      bounded = bounded_step Any (λ r q. tt) F k s h.small e h.bounded;
      stored = stored_step F s h.stored;
      treed = λ l. (step_tree F s).treed (h.treed (room F s e)) (omega (arith, l));
    }

pub fit_start : (F : Setting) (rs : List Rec) → length rs ≤ most_records → WellFormed rs → empty (marks rs) ≡ false → Fit F (length rs) (start F rs)
unfolding start begun
fit_start F rs small wf e =
    record {
      small = small;
      bounded = start_bounded Any (λ r q. tt) F rs small wf (each_any Any (λ r. tt) rs);
      stored = stored_checked F (begun rs) (omega arith);
      treed = λ l. start_treed F rs e (omega (arith, l));
    }

-- and of a state from which a step is due
pub record Ready (s : State) : Type 0 where
  pub nodes : length s.nodes ≤ most_identifiers
  pub treed : Treed s.nodes
  pub leaves : length (leaves s.nodes) ≤ most_identifiers
  pub formulas : length s.formulas + 2 ≤ most_formulas
  pub necessities : length s.necessities < most_identifiers
  pub worlds : s.graph.worlds < graph_width

pub filled : (xs : List ℕ) → empty xs ≡ false → 0 < length xs
filled [] e = true_false e
filled (x ∷ xs) e = omega arith

pub ready : (F : Setting) (k : ℕ) (s : State) → Fit F k s → stops F s ≡ false → Ready s
unfolding Counted
ready F k s h e =
    let l = room F s e in
    let t = h.treed l in
    let d = (not_stopped F s e).0 in
    let waits = filled s.waiting d.waits in
    let c = h.bounded.counted in
    record {
      nodes = l;
      treed = t;
      leaves = omega (arith, l, leaves_few s.nodes t);
      formulas = omega (arith, l, c, waits, h.small, h.bounded.sizes.formulas);
      necessities = omega (arith, l, c, waits, h.stored);
      worlds = omega (arith, d.worlds, stop_fits);
    }
