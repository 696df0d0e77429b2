-- What the run keeps: each node of the tree waits, or what its rule asks is on every open path through it; and what a stored necessity asks is given.
use mathlib.Core.Path.{◌≡◌, sym, ap, ◌∙◌, subst}
use mathlib.Core.Bool.{true, false}
use mathlib.Core.List.{List}
use mathlib.Core.Option.{none}
use mathlib.Core.Logic.{◌⊎◌, inl, inr, ⊎_elim, ⊎_map, ◌≢◌}
use Prim.Native.Nat.{ℕ, ◌<◌, ◌≤◌}
use native.Mathlib.Omega.{arith}
use lib.Dec.{ltb}
use borrow.Author.Tests.{ltb-true, ltb-false}
use lib.ListN.{length}
use Rattle.definition.specs.Lists.{Each, elem}
use Rattle.definition.specs.Records.{is_nobody}
use Rattle.definition.specs.Formula.{Form, form_at}
use Rattle.definition.specs.Setting.{Setting}
use Rattle.definition.specs.Graph.{Graph, edge, initialize_graph_if_needed}
use Rattle.definition.specs.Tree.{node_at, path, Node}
use Rattle.definition.specs.Rules.{Rule, nothing, down, split, as_possible, as_necessary, priest, expansion, written_rule}
use Rattle.definition.specs.Modality.{Necessity, occurs}
use Rattle.definition.specs.Queue.{Popped}
use Rattle.definition.specs.Run.{State, checked_for_contradictions}
use Rattle.definition.specs.Countermodel.{keeps_edges}
use Rattle.definition.proofs.Basics.Lists.{either, Some, Among, each_map, each_among, each_both}
use Rattle.definition.proofs.Tree.Nodes.{Label, label}
use Rattle.definition.specs.TreeShape.{spots, In}
use Rattle.definition.proofs.Tree.Shape.{in_range}
use Rattle.definition.proofs.Completeness.On.{On, OpenLeaf, keeps_like}
use Rattle.definition.proofs.Completeness.Frames.{Frame}
use Rattle.definition.proofs.Completeness.Queued.{Waits, taken_or, appended_waits}
use Rattle.definition.proofs.Completeness.Steps.{Stepping, after, Next, next, form_next, known_next, rule_form, named_known, after_length, old_label, old_inside, old_on, on_next}

-- the graph, begun: where no world is there yet, world 0 alone
abbrev pub begun : Setting → State → Graph
begun F s = initialize_graph_if_needed F s.graph

-- the world v occurs on the path of l
abbrev pub Occurs : State → ℕ → ℕ → Type 0
Occurs s l v = occurs s.nodes none (path s.nodes l) v ≡ true

-- that p is necessary at w is stored for the node x
pub record Stored (s : State) (x w : ℕ) (p : Form) (n : Necessity) : Type 0 where
  pub spawner : n.spawner ≡ x
  pub world : n.world ≡ w
  pub known : n.formula < length s.formulas
  pub form : form_at s.formulas n.formula ≡ p

-- what a rule of the node x at the world w asks of the path of l; a world that a fork made is not world 0
abbrev pub Met : Setting → State → ℕ → ℕ → ℕ → Rule Form → Type 0
Met F s l x w nothing = Unit {0}
Met F s l x w (down ps) = Each (On s.formulas s.nodes l w) ps
Met F s l x w (split ps qs) = Each (On s.formulas s.nodes l w) ps ⊎ Each (On s.formulas s.nodes l w) qs
Met F s l x w (as_possible p) = (v : ℕ) × (v ≢ 0) × (edge (begun F s) w v ≡ true) × On s.formulas s.nodes l v p
Met F s l x w (as_necessary p) = Some (Stored s x w p) s.necessities

-- the same of the rule of what a label says, unless it is a comment's
abbrev pub Asks : Setting → State → ℕ → ℕ → Label → Type 0
Asks F s l x a = is_nobody a.formula ≡ false → Met F s l x a.world (priest (form_at s.formulas a.formula))

abbrev pub Settled : Setting → State → ℕ → Type 0
Settled F s x = (l : ℕ) → OpenLeaf s l → elem x (path s.nodes l) ≡ true → Asks F s l x (label (node_at s.nodes x))

abbrev pub AllSettled : Setting → State → Type 0
AllSettled F s = (x : ℕ) → In (spots s.nodes) x → Waits s.waiting x ⊎ Settled F s x

-- a stored necessity, on an open path through its node: its formula is shown at every visited world, and every world that it reaches was visited
pub record Served (F : Setting) (s : State) (n : Necessity) : Type 0 where
  pub world : n.world < (begun F s).worlds
  pub low : Each (λ v. v < (begun F s).worlds) n.visited
  pub given : (l v : ℕ) → OpenLeaf s l → elem n.spawner (path s.nodes l) ≡ true → Among v n.visited → Occurs s l v → On s.formulas s.nodes l v (form_at s.formulas n.formula)
  pub reached : (l v : ℕ) → OpenLeaf s l → elem n.spawner (path s.nodes l) ≡ true → keeps_edges F s.nodes (path s.nodes l) ≡ true → edge (begun F s) n.world v ≡ true → Occurs s l v → Among v n.visited

-- what every state of a run has
pub record Saturated (F : Setting) (s : State) : Type 0 where
  pub settled : AllSettled F s
  pub frame : Frame F (begun F s)
  pub served : Each (Served F s) s.necessities

module _ {F : Setting} {k : ℕ} {s : State} {p : Popped} (h : Stepping F k s p) where
  abbrev s' : State
  s' = after F s p

  abbrev t : List Node
  t = s.nodes

  -- ---- what a step leaves of the necessities that are stored
  pub stored_next : {x w : ℕ} {q : Form} (n : Necessity) → Stored s x w q n → Stored s' x w q n
  stored_next n y = record { spawner = y.spawner; world = y.world; known = known_next h y.known; form = form_next h y.known ∙ y.form }

  pub record Wider : Type 0 where
    pub edges : (a b : ℕ) → edge (begun F s) a b ≡ true → edge (begun F s') a b ≡ true
    pub stored : (x w : ℕ) (q : Form) → Some (Stored s x w q) s.necessities → Some (Stored s' x w q) s'.necessities

  met_next : Wider → {l : ℕ} (n : Next F s p l) (x w : ℕ) (r : Rule Form) → Met F s n.from x w r → Met F s' l x w r
  met_next wide n x w nothing m = tt
  met_next wide n x w (down ps) m = each_map (on_next h n w) ps m
  met_next wide n x w (split ps qs) m = ⊎_map (each_map (on_next h n w) ps) (each_map (on_next h n w) qs) m
  met_next wide n x w (as_possible q) m = (m.0, m.1, wide.edges w m.0 m.2, on_next h n m.0 q m.3)
  met_next wide n x w (as_necessary q) m = wide.stored x w q m

  -- what is asked of an old node, by its label before the step
  asks_old : (x l : ℕ) → x < length t → (is_nobody (node_at t x).formula ≡ false → (node_at t x).formula < length s.formulas →
      Met F s' l x (node_at t x).world (priest (form_at s.formulas (node_at t x).formula))) → Asks F s' l x (label (node_at s'.nodes x))
  asks_old x l i m =
      subst (Asks F s' l x) (sym (old_label h x i)) (λ named.
      let low = named_known h x i named in
      subst (λ (q : Form). Met F s' l x (node_at t x).world (priest q)) (sym (form_next h low)) (m named low))

  -- the taken node is settled, if what its rule asks is met
  pub settled_by : ((l : ℕ) (n : Next F s p l) → elem p.node (path t n.from) ≡ true →
      Met F s' l p.node (node_at t p.node).world (written_rule (form_at s'.formulas) (expansion s.formulas (node_at t p.node).formula).rule)) →
      Settled F s' p.node
  settled_by met l o on =
      let n = next h l o in
      asks_old p.node l h.known (λ named low. subst (Met F s' l p.node (node_at t p.node).world) (rule_form h low named) (met l n (sym (old_on h n p.node h.known) ∙ on)))

  -- so then is every node that does not wait
  pub settled_next : Wider → Settled F s' p.node → AllSettled F s → AllSettled F s'
  unfolding checked_for_contradictions
  settled_next wide taken all x i = ⊎_elim (λ e. old (ltb-true x (length t) e)) (λ e. inl (appended_waits F s p x (inr (ltb-false x (length t) e, omega (arith, in_range s'.nodes x i, after_length h))))) (either (ltb x (length t)))
    where
      old : x < length t → Waits s'.waiting x ⊎ Settled F s' x
      old low =
          ⊎_elim (λ (q : Waits s.waiting x). ⊎_elim (λ (d : p.node ≡ x). inr (subst (Settled F s') d taken)) (λ d. inl (appended_waits F s p x (inl d))) (taken_or s.waiting p h.taken x q))
          (λ (q : Settled F s x). inr (λ l o on.
          let n = next h l o in
          asks_old x l low (λ named known. met_next wide n x (node_at t x).world (priest (form_at s.formulas (node_at t x).formula)) (q n.from n.was (sym (old_on h n x low) ∙ on) named)))) (all x (old_inside h x i low))

  -- ---- a necessity that is not reapplied
  pub given_next : (m : Necessity) → m.formula < length s.formulas → {l : ℕ} (n : Next F s p l) (v : ℕ) → On s.formulas t n.from v (form_at s.formulas m.formula) →
      On s'.formulas s'.nodes l v (form_at s'.formulas m.formula)
  given_next m low n v y = subst (On s'.formulas s'.nodes _ v) (sym (form_next h low)) (on_next h n v _ y)

  pub served_next : (m : Necessity) → m.formula < length s.formulas → m.spawner < length t → (begun F s).worlds ≤ (begun F s').worlds →
      ((l : ℕ) (n : Next F s p l) (v : ℕ) → v < (begun F s).worlds → Occurs s' l v → Occurs s n.from v) →
      ((l : ℕ) (n : Next F s p l) (v : ℕ) → elem m.spawner (path t n.from) ≡ true → keeps_edges F s'.nodes (path s'.nodes l) ≡ true → edge (begun F s') m.world v ≡ true →
      Occurs s' l v → (keeps_edges F t (path t n.from) ≡ true) × (edge (begun F s) m.world v ≡ true) × Occurs s n.from v) → Served F s m → Served F s' m
  served_next m low old wide back reach y =
      record {
        world = omega arith;
        low = each_map (λ v (q : v < (begun F s).worlds). omega arith) m.visited y.low;
        given = λ l v o on vis oc.
            let n = next h l o in
            given_next m low n v (y.given n.from v n.was (sym (old_on h n m.spawner old) ∙ on) vis (back l n v (each_among (λ v. v < (begun F s).worlds) v m.visited y.low vis) oc));
        reached = λ l v o on live e oc.
            let n = next h l o in
            let on' = sym (old_on h n m.spawner old) ∙ on in
            let b = reach l n v on' live e oc in
            y.reached n.from v n.was on' b.0 b.1 b.2;
      }

  -- ---- a step that makes no world
  module _ (same : begun F s' ≡ begun F s) (old : (l : ℕ) (n : Next F s p l) (v : ℕ) → Occurs s' l v → Occurs s n.from v) where
    pub still_edges : (a b : ℕ) → edge (begun F s) a b ≡ true → edge (begun F s') a b ≡ true
    still_edges a b e = subst (λ (g : Graph). edge g a b ≡ true) (sym same) e

    pub served_still : Each (Served F s) s.necessities → Each (Served F s') s.necessities
    served_still =
        each_both {R = Served F s'} (λ (m : Necessity) (a : (m.formula < length s.formulas) × (m.spawner < length t)) y.
        served_next m a.0 a.1 (omega (arith, ap (λ (g : Graph). g.worlds) same)) (λ l n v q. old l n v) (λ l n v on live e oc. (
          keeps_like F s'.nodes t (path s'.nodes l) (path t n.from) (old l n) live,
          subst (λ (g : Graph). edge g m.world v ≡ true) same e,
          old l n v oc,
        )) y) s.necessities h.fit.bounded.sizes.necessities
