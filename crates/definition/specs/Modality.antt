-- "Necessary": what is stored of a rule that acts so, and its reapplication. The names are common_modal_logic.rs's.
use Rattle.std.specs.Prelude.{Bool, false, not, ◌&&◌, ◌||◌, cond, List, [], ◌∷◌, ◌++◌, map, reverse, ℕ, ◌+◌, eqb, length}
use Rattle.std.proofs.Math.Option.{Option, none, some}
use Rattle.definition.specs.Lists.{up_from, any, elem, filter, empty}
use Rattle.definition.specs.Graph.{Graph, reached}
use Rattle.definition.specs.Tree.{Node, new_node, node_at, leaves, path}
use Rattle.definition.specs.Subtree.{Targeted, with_middle}

-- the formula that is necessary, the world where, the node of the rule, "its path leaves", and the worlds visited
pub record Necessity : Type 0 where
  pub formula : ℕ
  pub world : ℕ
  pub spawner : ℕ
  pub leaves : List ℕ
  pub visited : List ℕ

-- a fork in progress: the forking node and the new world
pub record Fork : Type 0 where
  pub node : ℕ
  pub world : ℕ

-- "through a stored leaf"
unfoldable pub runs_through : Necessity → List ℕ → Bool
runs_through n path = any (λ leaf. elem leaf path) n.leaves

-- "During a fork the new world counts as occurring on every path through the forking node"
unfoldable pub forked_on : Option Fork → List ℕ → ℕ → Bool
forked_on none path v = false
forked_on (some k) path v = eqb v k.world && elem k.node path

-- "if that world occurs on the path"
unfoldable pub occurs : List Node → Option Fork → List ℕ → ℕ → Bool
occurs t k path v = any (λ x. eqb (node_at t x).world v) path || forked_on k path v

-- "each edge in rising order from its world to a world not visited before"
unfoldable pub unvisited : Graph → Necessity → List ℕ
unvisited g n = filter (λ v. not (elem v n.visited)) (reached g n.world)

-- nodes made, by identifier, and the subtrees that they form
pub record Reapplication : Type 0 where
  pub nodes : List Node
  pub subtrees : List Targeted

-- path by path, each "gives a node, below the last one"; "what a path gives goes on that path alone".
-- next is the next identifier; "Reapplied nodes have the necessity as spawner"
unfoldable pub give_on : List Node → Option Fork → Necessity → List ℕ → ℕ → List ℕ → Reapplication
give_on t k n worlds next [] = record { nodes = []; subtrees = [] }
give_on t k n worlds next (leaf ∷ more) =
    let here = filter (occurs t k (path t leaf)) worlds in
    let rest = give_on t k n worlds (next + length here) more in
    record {
      nodes = map (new_node n.spawner n.formula) here ++ rest.nodes;
      subtrees = record { target = leaf; subtree = with_middle (up_from (length here) next) } ∷ rest.subtrees;
    }

-- the paths "through a stored leaf, closed paths too", by their leaves; t is the tree as it stood before the step
unfoldable pub leaves_of : List Node → Necessity → List ℕ
leaves_of t n = filter (λ leaf. runs_through n (path t leaf)) (leaves t)

unfoldable pub reapply_necessity : List Node → Graph → Option Fork → ℕ → Necessity → Reapplication
reapply_necessity t g k next n = give_on t k n (unvisited g n) next (leaves_of t n)

-- "Those worlds are then marked visited for all those paths together": where there is such a path
unfoldable pub visiting : List Node → Graph → Necessity → Necessity
visiting t g n =
    let more = cond (empty (leaves_of t n)) [] (unvisited g n) in
    record { formula = n.formula; world = n.world; spawner = n.spawner; leaves = n.leaves; visited = n.visited ++ more }

-- "Every stored necessity with a leaf on a path through the node is then reapplied"
unfoldable pub is_reapplied : List Node → Fork → Necessity → Bool
is_reapplied t k n = any (λ leaf. elem k.node (path t leaf)) (leaves_of t n)

unfoldable pub reapply_if_on_path : List Node → Graph → Fork → ℕ → Necessity → Reapplication
reapply_if_on_path t g k next n = cond (is_reapplied t k n) (reapply_necessity t g (some k) next n) (record { nodes = []; subtrees = [] })

-- "in pop_necessity_reapplication order": the last one pushed first
unfoldable pub reapply_necessity_after_possibility : List Node → Graph → Fork → ℕ → List Necessity → Reapplication
reapply_necessity_after_possibility t g k next [] = record { nodes = []; subtrees = [] }
reapply_necessity_after_possibility t g k next (n ∷ ns) =
    let one = reapply_if_on_path t g k next n in
    let rest = reapply_necessity_after_possibility t g k (next + length one.nodes) ns in
    record { nodes = one.nodes ++ rest.nodes; subtrees = one.subtrees ++ rest.subtrees }

-- what was popped is pushed again, so that the stack is turned round
unfoldable pub necessities_after_possibility : List Node → Graph → Fork → List Necessity → List Necessity
necessities_after_possibility t g k ns = reverse (map (λ n. cond (is_reapplied t k n) (visiting t g n) n) ns)
