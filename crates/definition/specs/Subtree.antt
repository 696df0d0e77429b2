-- Subtrees, and "Placing". The names are subtree.rs's, tree.rs's and decomposition_queue.rs's.
use Rattle.std.specs.Prelude.{Bool, not, ◌&&◌, List, [], ◌∷◌, ◌++◌, map, reverse, ℕ, ◌+◌, length}
use Rattle.definition.specs.Lists.{up_from, any, elem, filter}
use Rattle.definition.specs.Tree.{Node, Left, Middle, Right, new_node, node_at, is_contradictory, link_chain, leaves, path}

-- three chains, each from the top down: of identifiers, or of formula numbers before the identifiers are issued
pub record Subtree : Type 0 where
  pub left : List ℕ
  pub middle : List ℕ
  pub right : List ℕ

abbrev pub with_middle : List ℕ → Subtree
with_middle xs = record { left = []; middle = xs; right = [] }

abbrev pub with_left_right : List ℕ → List ℕ → Subtree
with_left_right xs ys = record { left = xs; middle = []; right = ys }

unfoldable pub flat : Subtree → List ℕ
flat s = s.left ++ (s.middle ++ s.right)

-- each chain from the bottom up
unfoldable pub turned : Subtree → Subtree
turned s = record { left = reverse s.left; middle = reverse s.middle; right = reverse s.right }

-- a subtree of this shape whose identifiers rise from n on, "parent first"
unfoldable pub numbered : ℕ → Subtree → Subtree
numbered n s =
    let m = n + length s.left in
    let r = m + length s.middle in
    record { left = up_from (length s.left) n; middle = up_from (length s.middle) m; right = up_from (length s.right) r }

unfoldable pub append_subtree_on_leaf : List Node → ℕ → Subtree → List Node
append_subtree_on_leaf t leaf s =
    link_chain (link_chain (link_chain t leaf Left s.left) leaf Middle s.middle) leaf Right s.right

-- a copy of a node, not in the tree yet
abbrev pub copied : List Node → ℕ → Node
copied t x = new_node (node_at t x).spawner (node_at t x).formula (node_at t x).world

-- the tree, and the waiting nodes
pub record Placed : Type 0 where
  pub nodes : List Node
  pub waiting : List ℕ

-- "the original's left, middle, right", of each chain the children before the node itself; "each identifier once": Claims.QueueCounts
unfoldable pub push_subtree : List ℕ → Subtree → List ℕ
push_subtree q s = q ++ flat (turned s)

-- "every further one a copy renumbered parent first"; the queue takes the copies "in the order made"
unfoldable pub append_copies : List Node → List ℕ → List ℕ → Subtree → Placed
append_copies t q [] s = record { nodes = t; waiting = q }
append_copies t q (leaf ∷ more) s =
    let c = numbered (length t) s in
    append_copies (append_subtree_on_leaf (t ++ map (copied t) (flat s)) leaf c) (push_subtree q c) more s

-- "The first takes the original identifiers". A subtree is queued "even if no open path took it"
unfoldable pub append_on : List Node → List ℕ → List ℕ → Subtree → Placed
append_on t q [] s = record { nodes = t; waiting = push_subtree q s }
append_on t q (leaf ∷ more) s = append_copies (append_subtree_on_leaf t leaf s) (push_subtree q s) more s

-- "each path that holds the target and has no contradictory node"
unfoldable pub takes : List Node → ℕ → ℕ → Bool
takes t target leaf = elem target (path t leaf) && not (any (λ x. is_contradictory (node_at t x)) (path t leaf))

unfoldable pub append_subtree : List Node → List ℕ → ℕ → Subtree → Placed
append_subtree t q target s = append_on t q (filter (takes t target) (leaves t)) s

-- a subtree, and the node whose paths take it
pub record Targeted : Type 0 where
  pub target : ℕ
  pub subtree : Subtree

-- a joined result: its subtrees one after the other, placed and queued. The paper checks contradictions between
-- placing and queueing; that check reads and writes no queue
unfoldable pub append_logic_rule_result : List Node → List ℕ → List Targeted → Placed
append_logic_rule_result t q [] = record { nodes = t; waiting = q }
append_logic_rule_result t q (r ∷ rs) =
    let p = append_subtree t q r.target r.subtree in
    append_logic_rule_result p.nodes p.waiting rs
