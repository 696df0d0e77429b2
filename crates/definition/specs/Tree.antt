-- Nodes, listed by identifier and linked by numbers; paths and their leaves. `is_contradictory` is node.rs's name.
use Rattle.std.specs.Prelude.{Bool, cond, ◌&&◌, not, List, [], ◌∷◌, ◌++◌, ℕ, zero, suc, length, get_or, set}
use Rattle.definition.specs.Records.{nobody, is_nobody}

-- "place 2 (0 root, 1 left, 2 middle, 3 right, 4 never placed in the tree)"
pub data Place : Type 0 where
  Root Left Middle Right Unplaced : Place

unfoldable pub place_number : Place → ℕ
place_number Root = 0
place_number Left = 1
place_number Middle = 2
place_number Right = 3
place_number Unplaced = 4

pub record Children : Type 0 where
  pub left : ℕ
  pub middle : ℕ
  pub right : ℕ

pub record Node : Type 0 where
  pub parent : ℕ
  pub place : Place
  pub world : ℕ
  pub formula : ℕ
  pub spawner : ℕ
  pub contrarian : ℕ
  pub children : Children

abbrev pub childless : Children
childless = record { left = nobody; middle = nobody; right = nobody }

-- a node that is not in the tree yet
abbrev pub new_node : ℕ → ℕ → ℕ → Node
new_node spawner formula world =
    record { parent = nobody; place = Unplaced; world = world; formula = formula; spawner = spawner; contrarian = nobody; children = childless }

-- the node of an identifier; of any other number, a node all of whose numbers are nobody
abbrev pub node_at : List Node → ℕ → Node
node_at t x = get_or t x (new_node nobody nobody nobody)

-- the node x as it enters the tree below y, with no child yet
abbrev pub placed_below : ℕ → Place → Node → Node
placed_below y place x =
    record { parent = y; place = place; world = x.world; formula = x.formula; spawner = x.spawner; contrarian = x.contrarian; children = childless }

unfoldable pub set_child : Place → ℕ → Children → Children
set_child Root x c = c
set_child Left x c = record { left = x; middle = c.middle; right = c.right }
set_child Middle x c = record { left = c.left; middle = x; right = c.right }
set_child Right x c = record { left = c.left; middle = c.middle; right = x }
set_child Unplaced x c = c

-- the child at a place
unfoldable pub child_at : Place → Children → ℕ
child_at Root c = nobody
child_at Left c = c.left
child_at Middle c = c.middle
child_at Right c = c.right
child_at Unplaced c = nobody

-- the node y with the child x
abbrev pub with_child : Place → ℕ → Node → Node
with_child place x y =
    record { parent = y.parent; place = y.place; world = y.world; formula = y.formula; spawner = y.spawner; contrarian = y.contrarian; children = set_child place x y.children }

-- the node x, marked against j
abbrev pub marked_against : ℕ → Node → Node
marked_against j x =
    record { parent = x.parent; place = x.place; world = x.world; formula = x.formula; spawner = x.spawner; contrarian = j; children = x.children }

unfoldable pub is_contradictory : Node → Bool
is_contradictory x = not (is_nobody x.contrarian)

abbrev pub change : List Node → ℕ → (Node → Node) → List Node
change t x f = set t x (f (node_at t x))

-- x becomes the child of y at a place
unfoldable pub link : List Node → ℕ → Place → ℕ → List Node
link t y place x = change (change t x (placed_below y place)) y (with_child place x)

-- a chain of nodes below y: the first at a place, each further one the middle child of the one before
unfoldable pub link_chain : List Node → ℕ → Place → List ℕ → List Node
link_chain t y place [] = t
link_chain t y place (x ∷ xs) = link_chain (link t y place x) x Middle xs

unfoldable pub is_leaf : Children → Bool
is_leaf c = is_nobody c.left && (is_nobody c.middle && is_nobody c.right)

unfoldable pub only : ℕ → List ℕ
only x = cond (is_nobody x) [] (x ∷ [])

-- "Paths are walked left, then middle, then right": the leaves below x; n bounds the depth
unfoldable pub leaves_below : ℕ → List Node → ℕ → List ℕ
leaves_below zero t x = only x
leaves_below (suc n) t x =
    let c = (node_at t x).children in
    let further = leaves_below n t c.left ++ (leaves_below n t c.middle ++ leaves_below n t c.right) in
    cond (is_leaf c) (only x) further

-- from x up to the root; n bounds the depth
unfoldable pub upward : ℕ → List Node → ℕ → List ℕ
upward zero t x = []
upward (suc n) t x =
    let further = x ∷ upward n t (node_at t x).parent in
    cond (is_nobody x) [] further

-- a path is known by its leaf; no path is longer than there are nodes
unfoldable pub leaves : List Node → List ℕ
leaves t = leaves_below (length t) t 0

-- the path of a leaf, from the leaf up to the root
unfoldable pub path : List Node → ℕ → List ℕ
path t leaf = upward (length t) t leaf
