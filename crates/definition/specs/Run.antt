-- "The run": the rule of a node applied, the start, a step, and the steps until none is due. The names are those of proof.rs, logic.rs, tree.rs and common_modal_logic.rs.
use Rattle.std.specs.Prelude.{Bool, false, ◌||◌, cond, List, [], ◌∷◌, ◌++◌, map, ℕ, zero, suc, ◌<◌, ◌+◌, leb, ltb, length}
use Rattle.std.proofs.Math.Option.{Option, none, some}
use Rattle.definition.specs.Limits.{most_identifiers, world_limit}
use Rattle.definition.specs.Lists.{up_from, all, elem, filter, empty}
use Rattle.definition.specs.Records.{Rec, marks, nobody}
use Rattle.definition.specs.Setting.{Setting}
use Rattle.definition.specs.Graph.{Graph, empty_graph, initialize_graph_if_needed, forked_world, fork}
use Rattle.definition.specs.Tree.{Node, Root, Middle, new_node, node_at, placed_below, link_chain, leaves, path}
use Rattle.definition.specs.Rules.{Rule, nothing, down, split, as_possible, as_necessary, expansion}
use Rattle.definition.specs.Subtree.{Subtree, Targeted, with_middle, with_left_right, flat, turned, numbered, append_logic_rule_result}
use Rattle.definition.specs.Modality.{Necessity, Fork, reapply_necessity, visiting, reapply_necessity_after_possibility, necessities_after_possibility}
use Rattle.definition.specs.Queue.{Popped, pop, push_tree_node}
use Rattle.definition.specs.Contradiction.{pairs, mark_all, is_pair}

-- formulas: "input and made"; necessities: the stack, the last one pushed first; waiting: the queue
pub record State : Type 0 where
  pub formulas : List Rec
  pub nodes : List Node
  pub graph : Graph
  pub necessities : List Necessity
  pub waiting : List ℕ
  pub proved : Bool
  pub steps : ℕ

-- what a rule leaves: the formulas and nodes made, the graph and the necessities after it, and the subtrees to be placed
pub record LogicRuleResult : Type 0 where
  pub formulas : List Rec
  pub nodes : List Node
  pub graph : Graph
  pub necessities : List Necessity
  pub subtrees : List Targeted

-- formulas at the node's own world: identifiers go left chain before right, in each chain from the bottom up ("And makes q's identifier before p's and puts p above q")
unfoldable pub apply_here : State → ℕ → List Rec → Subtree → LogicRuleResult
apply_here s x more fs =
    record {
      formulas = more;
      nodes = map (λ f. new_node x f (node_at s.nodes x).world) (flat (turned fs));
      graph = s.graph;
      necessities = s.necessities;
      subtrees = record { target = x; subtree = turned (numbered (length s.nodes) fs) } ∷ [];
    }

-- "Possible": "The formula takes its identifier before its comment; the comment stands above", "A comment has world 0"; then the stored necessities
unfoldable pub apply_possibility : Setting → State → ℕ → List Rec → ℕ → LogicRuleResult
apply_possibility F s x more f =
    let g = initialize_graph_if_needed F s.graph in
    let v = forked_world g in
    let n = length s.nodes in
    let k : Fork = record { node = x; world = v } in
    let forked = fork F g (node_at s.nodes x).world in
    let r = reapply_necessity_after_possibility s.nodes forked k (n + 2) s.necessities in
    record {
      formulas = more;
      nodes = new_node x f v ∷ new_node x nobody 0 ∷ r.nodes;
      graph = forked;
      necessities = necessities_after_possibility s.nodes forked k s.necessities;
      subtrees = record { target = x; subtree = with_middle (suc n ∷ n ∷ []) } ∷ r.subtrees;
    }

-- "Necessary": "Its path leaves are stored"
unfoldable pub apply_necessity : Setting → State → ℕ → List Rec → ℕ → LogicRuleResult
apply_necessity F s x more f =
    let t = s.nodes in
    let g = initialize_graph_if_needed F s.graph in
    let stored = filter (λ leaf. elem x (path t leaf)) (leaves t) in
    let n : Necessity = record { formula = f; world = (node_at t x).world; spawner = x; leaves = stored; visited = [] } in
    let r = reapply_necessity t g none (length t) n in
    record { formulas = more; nodes = r.nodes; graph = g; necessities = visiting t g n ∷ s.necessities; subtrees = r.subtrees }

unfoldable pub apply_rule : Setting → State → ℕ → List Rec → Rule ℕ → LogicRuleResult
apply_rule F s x more nothing = apply_here s x more (with_middle [])
apply_rule F s x more (down fs) = apply_here s x more (with_middle fs)
apply_rule F s x more (split fs gs) = apply_here s x more (with_left_right fs gs)
apply_rule F s x more (as_possible f) = apply_possibility F s x more f
apply_rule F s x more (as_necessary f) = apply_necessity F s x more f

-- the rule of node x
unfoldable pub apply : Setting → State → ℕ → LogicRuleResult
apply F s x =
    let e = expansion s.formulas (node_at s.nodes x).formula in
    apply_rule F s x e.made e.rule

-- the state with its contradictions marked; "Proved when every path has a pair"
unfoldable pub checked_for_contradictions : State → State
checked_for_contradictions s =
    let found = pairs s.formulas s.nodes (leaves s.nodes) in
    record {
      formulas = s.formulas;
      nodes = mark_all s.nodes found;
      graph = s.graph;
      necessities = s.necessities;
      waiting = s.waiting;
      proved = s.proved || all is_pair found;
      steps = s.steps;
    }

-- "8 skip contradiction checks"
unfoldable pub check_for_contradictions : Setting → State → State
check_for_contradictions F s = cond F.skip s (checked_for_contradictions s)

-- "It takes one node, applies its rule, places the result, checks contradictions, then queues the result": all but the check
unfoldable pub appended : Setting → State → Popped → State
appended F s taken =
    let r = apply F s taken.node in
    let p = append_logic_rule_result (s.nodes ++ r.nodes) taken.others r.subtrees in
    record {
      formulas = s.formulas ++ r.formulas;
      nodes = p.nodes;
      graph = r.graph;
      necessities = r.necessities;
      waiting = p.waiting;
      proved = s.proved;
      steps = suc s.steps;
    }

unfoldable pub step_by : Setting → State → Option Popped → State
step_by F s none = s
step_by F s (some taken) = check_for_contradictions F (appended F s taken)

unfoldable pub step : Setting → State → State
step F s = step_by F s (pop F s.formulas s.nodes s.waiting)

-- "A step is done while a node waits, proved is false and fewer than 25 worlds exist": otherwise the run has ended
unfoldable pub ended : Setting → State → Bool
ended F s = s.proved || (empty s.waiting || leb world_limit s.graph.worlds)

-- "the run (..) issues more than 512 identifiers"
unfoldable pub full : State → Bool
full s = ltb most_identifiers (length s.nodes)

-- at most n steps, while none of the states stops
unfoldable pub steps : (Setting → State → Bool) → ℕ → Setting → State → State
steps stops zero F s = s
steps stops (suc n) F s =
    let rest = steps stops n F (step F s) in
    cond (stops F s) s rest

-- the run as far as it is needed: a state that is full is not gone on from
unfoldable pub stops : Setting → State → Bool
stops F s = ended F s || full s

abbrev pub run : ℕ → Setting → State → State
run = steps stops

-- the paper's own loop, which knows no limit of identifiers
abbrev pub unlimited_run : ℕ → Setting → State → State
unlimited_run = steps ended

-- "root first, linked by middle children, identifiers 0 upward, no spawner, all at world 0"
unfoldable pub rooted : List Node → List Node
rooted [] = []
rooted (x ∷ xs) = link_chain (placed_below nobody Root x ∷ xs) 0 Middle (up_from (length xs) 1)

unfoldable pub branch_nodes : List Rec → List Node
branch_nodes rs = map (λ f. new_node nobody f 0) (marks rs)

-- "The root is queued by one push_tree_node"
unfoldable pub begun : List Rec → State
begun rs =
    let t = rooted (branch_nodes rs) in
    record {
      formulas = rs;
      nodes = t;
      graph = empty_graph;
      necessities = [];
      waiting = push_tree_node (length t) t [] 0;
      proved = false;
      steps = 0;
    }

-- "Contradictions are checked once before any step, unless skipped"
unfoldable pub start : Setting → List Rec → State
start F rs = check_for_contradictions F (begun rs)

-- "that run passes 512 identifiers", sooner or later: by the paper's own loop
abbrev pub Passes : Setting → List Rec → Type 0
Passes F rs = (n : ℕ) × (most_identifiers < length (unlimited_run n F (start F rs)).nodes)

-- each step takes an identifier that was not taken before, so that this many steps are enough
abbrev pub enough_steps : ℕ
enough_steps = suc most_identifiers

unfoldable pub final : Setting → List Rec → State
final F rs = run enough_steps F (start F rs)
