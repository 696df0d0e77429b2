-- A step whose rule puts formulas at the node's own world.
use mathlib.Core.Path.{◌≡◌, refl, sym, ap, ◌∙◌, subst}
use mathlib.Core.Bool.{true}
use mathlib.Core.List.{List, [], ◌++◌, map}
use mathlib.Core.Logic.{⊎_map}
use Prim.Native.Nat.{ℕ, ◌<◌, ◌≤◌, ◌+◌, ◌-◌}
use native.Mathlib.Omega.{arith}
use lib.ListN.{length, length-map}
use Rattle.definition.specs.Lists.{Each, elem}
use Rattle.definition.specs.Records.{Rec}
use Rattle.definition.specs.Formula.{Form, form_at}
use Rattle.definition.specs.Setting.{Setting}
use Rattle.definition.specs.Graph.{initialize_graph_if_needed}
use Rattle.definition.specs.Tree.{Node, new_node, node_at, path}
use Rattle.definition.specs.Rules.{Rule, nothing, down, split, as_possible, as_necessary, expansion, written_rule}
use Rattle.definition.specs.Subtree.{Subtree, Targeted, with_middle, with_left_right, flat, turned, numbered}
use Rattle.definition.specs.Queue.{Popped}
use Rattle.definition.specs.Run.{State, LogicRuleResult, apply_here, apply_rule, apply, appended, checked_for_contradictions}
use Rattle.definition.proofs.Basics.Lists.{Some, some_map, each_map, each_both, each_any, each_of_map, each_append}
use Rattle.definition.proofs.Tree.Nodes.{Label, label}
use Rattle.definition.proofs.Basics.Identifiers.{ids_turned, ids_numbered, length_turned}
use Rattle.definition.proofs.Tree.Labels.{node_after, each_every}
use Rattle.definition.proofs.Soundness.Priest
use Rattle.definition.proofs.Completeness.On.{On, elem_occurs}
use Rattle.definition.proofs.Completeness.Frames.{Frame}
use Rattle.definition.proofs.Completeness.Placed.{Pick, middle_pick, sides_pick, here_side, Shows, pick_each}
use Rattle.definition.proofs.Completeness.Steps.{Stepping, after, Shown, Next, rule_low, shows_on, worlds_next}
use Rattle.definition.proofs.Completeness.Settled.{Occurs, Stored, Met, Settled, Served, Saturated, stored_next, settled_by, settled_next, still_edges, served_still}

-- ---- rules that act here
abbrev pub Here : {A : Type 0} → Rule A → Type 0
Here nothing = Unit {0}
Here (down fs) = Unit {0}
Here (split fs gs) = Unit {0}
Here (as_possible f) = ⊥
Here (as_necessary f) = ⊥

abbrev pub chains : Rule ℕ → Subtree
chains nothing = with_middle []
chains (down fs) = with_middle fs
chains (split fs gs) = with_left_right fs gs
chains (as_possible f) = with_middle []
chains (as_necessary f) = with_middle []

rule_here : (F : Setting) (s : State) (x : ℕ) (more : List Rec) (c : Rule ℕ) → Here c → apply_rule F s x more c ≡ apply_here s x more (chains c)
unfolding apply_rule
rule_here F s x more nothing h = refl
rule_here F s x more (down fs) h = refl
rule_here F s x more (split fs gs) h = refl
rule_here F s x more (as_possible f) h = absurd h
rule_here F s x more (as_necessary f) h = absurd h

pub apply_here_lem : (F : Setting) (s : State) (x : ℕ) (c : Rule ℕ) → Here c → (expansion s.formulas (node_at s.nodes x).formula).rule ≡ c →
    apply F s x ≡ apply_here s x (expansion s.formulas (node_at s.nodes x).formula).made (chains c)
unfolding apply
apply_here_lem F s x c h d = let more = (expansion s.formulas (node_at s.nodes x).formula).made in ap (apply_rule F s x more) d ∙ rule_here F s x more c h

-- what such a rule asks is met by a chain of it
written_met : (F : Setting) (s : State) (l x w : ℕ) (form : ℕ → Form) (c : Rule ℕ) → Here c → (ds : List ℕ) → Pick (chains c) ds → Each (λ g. On s.formulas s.nodes l w (form g)) ds → Met F s l x w (written_rule form c)
unfolding written_rule
written_met F s l x w form nothing h ds p q = tt
written_met F s l x w form (down fs) h ds p q = each_of_map (On s.formulas s.nodes l w) form fs (subst (Each (λ g. On s.formulas s.nodes l w (form g))) (middle_pick fs ds p) q)
written_met F s l x w form (split fs gs) h ds p q =
    let P : ℕ → Type 0 = λ g. On s.formulas s.nodes l w (form g) in
    ⊎_map (λ e. each_of_map (On s.formulas s.nodes l w) form fs (subst (Each P) e q)) (λ e. each_of_map (On s.formulas s.nodes l w) form gs (subst (Each P) e q)) (sides_pick fs gs ds p)
written_met F s l x w form (as_possible f) h ds p q = absurd h
written_met F s l x w form (as_necessary f) h ds p q = absurd h

pub known_flat : (n : ℕ) (c : Rule ℕ) → Priest.Known n c → Each (λ g. g < n) (flat (chains c))
unfolding flat
known_flat n nothing h = tt
known_flat n (down fs) h = each_append (λ g. g < n) fs [] h tt
known_flat n (split fs gs) h = each_append (λ g. g < n) fs gs h.0 h.1
known_flat n (as_possible f) h = tt
known_flat n (as_necessary f) h = tt

-- the nodes that a rule makes here stand at the node's world, below the node
here_worlds : (s : State) (x : ℕ) (more : List Rec) (fs : Subtree) (Q : ℕ → Type 0) (xs : List ℕ) → (elem x xs ≡ true → Q (node_at s.nodes x).world) →
    Each (λ (a : Targeted). elem a.target xs ≡ true → Each (λ c. Q (node_at (s.nodes ++ (apply_here s x more fs).nodes) c).world) (flat a.subtree)) (apply_here s x more fs).subtrees
unfolding apply_here
here_worlds s x more fs Q xs q =
    let t = s.nodes in
    let n = length t in
    let v = (node_at t x).world in
    let make : ℕ → Node = λ f. new_node x f v in
    let ns = map make (flat (turned fs)) in
    let ids = ids_turned n (n + length (flat fs)) (numbered n fs) (ids_numbered n fs) in
    let at = each_every (λ (a : Label). a.world ≡ v) ns (each_of_map (λ (m : Node). m.world ≡ v) make (flat (turned fs)) (each_any (λ f. v ≡ v) (λ f. refl) (flat (turned fs)))) in (
      λ on. each_map (λ c (w : (n ≤ c) × (c < n + length (flat fs))).
          subst Q (sym (ap (λ (m : Node). m.world) (node_after t ns c w.0) ∙ at (c - n) (omega (arith, length-map (flat (turned fs)) make, length_turned fs)))) (q on)) (flat (turned (numbered n fs))) ids.within,
      tt,
    )

-- ---- the step
module _ {F : Setting} {k : ℕ} {s : State} {p : Popped} (h : Stepping F k s p) (c : Rule ℕ) (here : Here c) (d : (expansion s.formulas (node_at s.nodes p.node).formula).rule ≡ c) where
  abbrev x : ℕ
  x = p.node

  abbrev w : ℕ
  w = (node_at s.nodes x).world

  abbrev r : LogicRuleResult
  r = apply_here s x (expansion s.formulas (node_at s.nodes x).formula).made (chains c)

  abbrev s' : State
  s' = after F s p

  is : apply F s x ≡ r
  is = apply_here_lem F s x c here d

  same_graph : s'.graph ≡ s.graph
  unfolding checked_for_contradictions appended apply_here
  same_graph = ap (λ (a : LogicRuleResult). a.graph) is

  same_stored : s'.necessities ≡ s.necessities
  unfolding checked_for_contradictions appended apply_here
  same_stored = ap (λ (a : LogicRuleResult). a.necessities) is

  taken : Settled F s' x
  unfolding apply_here
  taken =
      settled_by h (λ l n on.
      let form = form_at s'.formulas in
      let u = (appended F s p).nodes in
      let side = here_side (λ g. new_node x g w) s.nodes (chains c) u (path u l) ((subst (λ (a : LogicRuleResult). Shown s a u (path u l) (path s.nodes n.from)) is n.shows).0 on) in
      subst (λ (c : Rule ℕ). Met F s' l x w (written_rule form c)) (sym d)
      (written_met F s' l x w form c here side.0 side.1
      (each_both (λ g (low : g < length s'.formulas) (q : Shows u (path u l) (label (new_node x g w))). shows_on h l x g w low q) side.0 (pick_each _ (chains c) side.0 side.1 (known_flat (length s'.formulas) c (subst (Priest.Known (length s'.formulas)) d (rule_low h)))) side.2)))

  -- no world is new on a path
  old : (l : ℕ) (n : Next F s p l) (v : ℕ) → Occurs s' l v → Occurs s n.from v
  old l n = worlds_next h n r is (Occurs s n.from) (λ v a. a) (here_worlds s x _ (chains c) (Occurs s n.from) (path s.nodes n.from) (elem_occurs s.nodes (path s.nodes n.from) x))

  pub saturated_here : Saturated F s → Saturated F (after F s p)
  saturated_here y =
      let same = ap (initialize_graph_if_needed F) same_graph in
      record {
        settled = settled_next h (record { edges = still_edges h same old; stored = λ z v q a. subst (Some (Stored s' z v q)) (sym same_stored) (some_map (stored_next h) s.necessities a) }) taken y.settled;
        frame = subst (Frame F) (sym same) y.frame;
        served = subst (Each (Served F s')) (sym same_stored) (served_still h same old y.served);
      }
