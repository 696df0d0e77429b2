-- What the engine's faster forms are said with; the paper's own forms are Subtree's, Modality's and Contradiction's, and a reader of the paper needs none of these.
use Rattle.std.specs.Prelude.{◌≡◌, Bool, false, cond, ◌&&◌, ◌||◌, not, List, [], ◌∷◌, ◌++◌, map, reverse, ◌⊎◌, ℕ, zero, suc, ◌≤◌, leb, length, drop}
use Rattle.std.proofs.Math.Option.{Option, none, some}
use Rattle.definition.specs.Lists.{all, elem, find, filter, up_from}
use Rattle.definition.specs.Records.{Rec, nobody, is_nobody}
use Rattle.definition.specs.Tree.{Node, node_at, is_contradictory, is_leaf, leaves, path}
use Rattle.definition.specs.Modality.{Necessity, runs_through}
use Rattle.definition.specs.Contradiction.{Pair, are_nodes_contradictory, get_contradictory_node_ids, is_pair, mark_all, pairs}
use Rattle.definition.specs.TreeShape.{spots, placed, In, Bare, Treed}

-- ---- placing
-- the leaves at and below x with no contradictory node on the way from x; n bounds the depth
unfoldable pub open_below : ℕ → List Node → ℕ → List ℕ
open_below zero t x = cond (is_nobody x) [] (cond (is_contradictory (node_at t x)) [] (x ∷ []))
open_below (suc n) t x =
    let c = (node_at t x).children in
    let further = open_below n t c.left ++ (open_below n t c.middle ++ open_below n t c.right) in
    cond (is_nobody x) [] (cond (is_contradictory (node_at t x)) [] (cond (is_leaf c) (x ∷ []) further))

-- ---- reapplication
-- of each leaf, the path runs through a stored leaf just if it goes through the spawner
abbrev pub ThroughSpawner : List Node → Necessity → Type 0
ThroughSpawner t n = (l : ℕ) → Bare (spots t) l → runs_through n (path t l) ≡ elem n.spawner (path t l)

-- ---- contradictions, by the new leaves
-- the nodes above x, from the root
unfoldable pub earlier : List Node → ℕ → List ℕ
earlier t x = reverse (drop 1 (path t x))

-- the first node from the root that contradicts x
unfoldable pub partner : List Rec → List Node → ℕ → Option ℕ
partner rs t x = find (are_nodes_contradictory rs t x) (earlier t x)

-- the pair of the path that ends at x, a leaf or not
unfoldable pub pair_of : List Rec → List Node → ℕ → Option Pair
pair_of rs t x = get_contradictory_node_ids rs t (path t x)

-- x is in the tree and has no child
abbrev pub bare_at : List Node → ℕ → Bool
bare_at t x = placed (node_at t x).place && is_leaf (node_at t x).children

-- the pair of a leaf; of another node none
abbrev pub pair_at : List Rec → List Node → ℕ → Option Pair
pair_at rs t x = cond (bare_at t x) (pair_of rs t x) none

-- those of n identifiers from `old` on
abbrev pub new_pairs : List Rec → List Node → ℕ → ℕ → List (Option Pair)
new_pairs rs t old n = map (pair_at rs t) (up_from n old)

-- x is no leaf, or has a pair
abbrev pub closed_at : List Rec → List Node → ℕ → Bool
closed_at rs t x = not (bare_at t x) || is_pair (pair_of rs t x)

-- every mark is against the partner
abbrev pub RightMarks : List Rec → List Node → Type 0
RightMarks rs t = (x : ℕ) → In (spots t) x → ((node_at t x).contrarian ≡ nobody) ⊎ (partner rs t x ≡ some (node_at t x).contrarian)

-- above the nodes from `old` on there is no pair
pub record NoPairAbove (rs : List Rec) (t : List Node) (old : ℕ) : Type 0 where
  pub treed : Treed t
  pub above : (z : ℕ) → In (spots t) z → old ≤ z → (old ≤ (node_at t z).parent) ⊎ (pair_of rs t (node_at t z).parent ≡ none)

-- the tree was checked when it had `old` nodes, and had then a path without a pair: the pairs of the leaves from `old` on mark what those of all leaves do
pub record CheckedAt (rs : List Rec) (t : List Node) (old : ℕ) : Type 0 where
  pub over : NoPairAbove rs t old
  pub right : RightMarks rs t
  pub new : mark_all t (pairs rs t (leaves t)) ≡ mark_all t (pairs rs t (filter (leb old) (leaves t)))
  pub still : length t ≤ old → all is_pair (pairs rs t (leaves t)) ≡ false
