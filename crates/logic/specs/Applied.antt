-- A state's tree, queue, graph and stack in the structs that rules work on: before a rule, and after its result is placed.
use Rattle.std.specs.Prelude.{ℕ, ◌≤◌, ◌<◌, ◌≡◌, List, ◌++◌, length}
use Rattle.definition.specs.Limits.{most_identifiers, graph_width}
use Rattle.definition.specs.Lists.{Each, elem, filter}
use Rattle.definition.specs.Tree.{node_at, leaves, path}
use Rattle.definition.specs.Modality.{Necessity}
use Rattle.definition.specs.Run.{State, LogicRuleResult}
use Rattle.definition.specs.Subtree.{Placed, append_logic_rule_result}
use Rattle.definition.specs.TreeShape.{Treed}
use Rattle.definition.specs.Shortcuts.{ThroughSpawner}
use Rattle.arrays.specs.Listed.{HasList}
use Rattle.graph.specs.Drawn.{HasGraph}
use Rattle.tree.specs.Lay.{lay, HasNodes}
use Rattle.necessities.specs.Stack.{HasStack, fresh}
use Rattle.logic.specs.declared.Tableau.{Tableau}

-- the result placed on the tree, and queued
abbrev placing : State → List ℕ → LogicRuleResult → Placed
placing s q r = append_logic_rule_result (s.nodes ++ r.nodes) q r.subtrees

-- the necessity that node x stores, with its path leaves
abbrev pub necessity_of : State → ℕ → ℕ → Necessity
necessity_of s x f = fresh f (node_at s.nodes x).world x (filter (λ leaf. elem x (path s.nodes leaf)) (leaves s.nodes))

module _ (A : Tableau) where
  -- a state from which a step is due; q waits beside the node that is taken
  pub record Before (s : State) (q : List ℕ) : Type 0 where
    pub treed : Treed s.nodes
    pub spawned : Each (ThroughSpawner s.nodes) s.necessities
    pub fits : length s.nodes ≤ most_identifiers
    pub count : length s.nodes ≡ A.tree.len
    pub laid : A.tree.nodes ≡ lay s.nodes
    pub waiting : HasList q A.waiting
    pub graph : HasGraph s.graph A.graph
    pub few : A.graph.worlds < graph_width
    pub necessities : HasStack s.necessities A.necessities
    pub room : A.necessities.count < most_identifiers

  pub record Rest (r : LogicRuleResult) (t : Placed) : Type 0 where
    pub waiting : HasList t.waiting A.waiting
    pub graph : HasGraph r.graph A.graph
    pub necessities : HasStack r.necessities A.necessities

  -- a rule's result, placed on the state's nodes and on those that wait; more nodes than there is room for: full
  pub record After (s : State) (q : List ℕ) (r : LogicRuleResult) : Type 0 where
    pub nodes : HasNodes (placing s q r).nodes A.tree
    pub rest : A.tree.len ≤ most_identifiers → Rest r (placing s q r)
