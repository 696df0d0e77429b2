-- What holds of the nodes that a rule makes.
use mathlib.Core.List.{List, [], ◌∷◌, map}
use mathlib.Core.Option.{Option, none, some}
use Prim.Native.Nat.{ℕ, ◌+◌}
use lib.ListN.{length}
use Rattle.definition.specs.Lists.{Each, filter}
use Rattle.definition.specs.Records.{Rec}
use Rattle.definition.specs.Setting.{Setting}
use Rattle.definition.specs.Graph.{Graph}
use Rattle.definition.specs.Tree.{Node, new_node, node_at, path}
use Rattle.definition.specs.Rules.{Rule, nothing, down, split, as_possible, as_necessary, expansion}
use Rattle.definition.specs.Subtree.{Subtree, with_middle, with_left_right, flat, turned}
use Rattle.definition.specs.Modality.{Necessity, Fork, Reapplication, occurs, unvisited, give_on, leaves_of, reapply_necessity, is_reapplied, reapply_if_on_path, reapply_necessity_after_possibility}
use Rattle.definition.specs.Run.{State, apply_here, apply_possibility, apply_necessity, apply_rule, apply}
use Rattle.definition.proofs.Basics.Lists.{cond_both, each_any, each_append, each_of_map, filter_keeps}

module _ (Q : Node → Type 0) where
  -- the nodes that a necessity may give over a graph
  abbrev pub Gifts : Graph → Necessity → Type 0
  Gifts g n = Each (λ v. Q (new_node n.spawner n.formula v)) (unvisited g n)

  give_each : (ls : List ℕ) (t : List Node) (k : Option Fork) (n : Necessity) (worlds : List ℕ) (next : ℕ) →
      Each (λ v. Q (new_node n.spawner n.formula v)) worlds → Each Q (give_on t k n worlds next ls).nodes
  unfolding give_on
  give_each [] t k n worlds next h = tt
  give_each (leaf ∷ ls) t k n worlds next h =
      let here = filter (occurs t k (path t leaf)) worlds in
      let make = new_node n.spawner n.formula in
      each_append Q (map make here) _ (each_of_map Q make here (filter_keeps (λ v. Q (make v)) (occurs t k (path t leaf)) worlds h)) (give_each ls t k n worlds (next + length here) h)

  pub reapply_each : (t : List Node) (g : Graph) (k : Option Fork) (next : ℕ) (n : Necessity) → Gifts g n → Each Q (reapply_necessity t g k next n).nodes
  unfolding reapply_necessity
  reapply_each t g k next n h = give_each (leaves_of t n) t k n (unvisited g n) next h

  pub after_each_node : (ns : List Necessity) (t : List Node) (g : Graph) (k : Fork) (next : ℕ) → Each (Gifts g) ns →
      Each Q (reapply_necessity_after_possibility t g k next ns).nodes
  unfolding reapply_necessity_after_possibility reapply_if_on_path
  after_each_node [] t g k next h = tt
  after_each_node (n ∷ ns) t g k next h =
      let one = reapply_if_on_path t g k next n in
      each_append Q one.nodes _
      (cond_both (λ (m : Reapplication). Each Q m.nodes) (is_reapplied t k n) (reapply_necessity t g (some k) next n) (record { nodes = []; subtrees = [] }) (reapply_each t g (some k) next n h.0) tt)
      (after_each_node ns t g k (next + length one.nodes) h.1)

  -- what holds of every new node
  module _ (new : (spawner formula world : ℕ) → Q (new_node spawner formula world)) where
    gifts : (g : Graph) (n : Necessity) → Gifts g n
    gifts g n = each_any (λ v. Q (new_node n.spawner n.formula v)) (new n.spawner n.formula) (unvisited g n)

    pub here_each : (s : State) (x : ℕ) (more : List Rec) (fs : Subtree) → Each Q (apply_here s x more fs).nodes
    unfolding apply_here
    here_each s x more fs =
        let w = (node_at s.nodes x).world in
        each_of_map Q (λ f. new_node x f w) (flat (turned fs)) (each_any (λ f. Q (new_node x f w)) (λ f. new x f w) (flat (turned fs)))

    pub rule_each : (F : Setting) (s : State) (x : ℕ) (more : List Rec) (r : Rule ℕ) → Each Q (apply_rule F s x more r).nodes
    unfolding apply_rule apply_possibility apply_necessity
    rule_each F s x more nothing = here_each s x more (with_middle [])
    rule_each F s x more (down fs) = here_each s x more (with_middle fs)
    rule_each F s x more (split fs gs) = here_each s x more (with_left_right fs gs)
    rule_each F s x more (as_possible f) = (new _ _ _, (new _ _ _, after_each_node s.necessities s.nodes _ _ _ (each_any (Gifts _) (gifts _) s.necessities)))
    rule_each F s x more (as_necessary f) = reapply_each s.nodes _ none _ _ (gifts _ _)

    pub apply_each : (F : Setting) (s : State) (x : ℕ) → Each Q (apply F s x).nodes
    unfolding apply
    apply_each F s x = let e = expansion s.formulas (node_at s.nodes x).formula in rule_each F s x e.made e.rule
