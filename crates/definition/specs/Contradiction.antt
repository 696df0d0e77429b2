-- "Contradictions". The names are binary_logic_semantics.rs's, path.rs's and tree.rs's.
use Rattle.std.specs.Prelude.{Bool, true, false, not, ◌&&◌, ◌||◌, cond, List, [], ◌∷◌, ◌++◌, map, reverse, ℕ, eqb}
use Rattle.std.proofs.Math.Option
use Rattle.std.proofs.Math.Option.{Option, none, some}
use Rattle.definition.specs.Lists.{find, or_else, empty, same}
use Rattle.definition.specs.Records.{Atomic, Non, BiImply, Rec, is, rec_at, formula_of}
use Rattle.definition.specs.Tree.{Node, node_at, change, marked_against, path}

-- two lists in one, or nothing where one of them is empty
abbrev pub both : List ℕ → List ℕ → List ℕ
both xs ys = cond (empty xs || empty ys) [] (xs ++ ys)

module _ (rs : List Rec) where
  abbrev pub inner : Rec → Rec
  inner r = rec_at rs r.left

  -- the number of an atom
  unfoldable pub atom_of : Rec → List ℕ
  atom_of r = cond (is Atomic r) (r.left ∷ []) []

  -- of an atom its number, of a BiImply of two atoms both, "atoms in the same order"
  unfoldable pub atoms_of : Rec → List ℕ
  atoms_of r = cond (is BiImply r) (both (atom_of (inner r)) (atom_of (rec_at rs r.right))) (atom_of r)

  -- what r says: "an atom", "BiImply of two atoms", "Non Non atom"
  unfoldable pub said : Rec → List ℕ
  said r = cond (is Non r && is Non (inner r)) (atom_of (inner (inner r))) (atoms_of r)

  -- what r denies: "its negation", "Non atom"
  unfoldable pub denied : Rec → List ℕ
  denied r = cond (is Non r) (atoms_of (inner r)) []

-- one says what the other denies: an atom gives one number, an equivalence two, so that no pair arises but "an atom and its negation;
-- Non Non atom and Non atom; BiImply of two atoms and its negation"
unfoldable pub opposed : List ℕ → List ℕ → Bool
opposed xs ys = not (empty xs) && same xs ys

unfoldable pub are_formulas_contradictory : List Rec → Rec → Rec → Bool
are_formulas_contradictory rs p q = opposed (said rs p) (denied rs q) || opposed (said rs q) (denied rs p)

-- "always one world"
unfoldable pub are_nodes_contradictory : List Rec → List Node → ℕ → ℕ → Bool
are_nodes_contradictory rs t x y =
    let a = node_at t x in
    let b = node_at t y in
    eqb a.world b.world && are_formulas_contradictory rs (formula_of rs a.formula) (formula_of rs b.formula)

pub record Pair : Type 0 where
  pub later : ℕ
  pub earlier : ℕ

abbrev pub pair : ℕ → ℕ → Pair
pair x y = record { later = x; earlier = y }

-- "From the path's last node upward, against each earlier node from the root": the path is given from its leaf
unfoldable pub get_contradictory_node_ids : List Rec → List Node → List ℕ → Option Pair
get_contradictory_node_ids rs t [] = none
get_contradictory_node_ids rs t (x ∷ xs) =
    let rest = get_contradictory_node_ids rs t xs in
    or_else (Option.map (pair x) (find (are_nodes_contradictory rs t x) (reverse xs))) rest

unfoldable pub is_pair : Option Pair → Bool
is_pair none = false
is_pair (some p) = true

-- "The later node is marked"
unfoldable pub mark : List Node → Option Pair → List Node
mark t none = t
mark t (some p) = change t p.later (marked_against p.earlier)

-- path by path, by its leaf
unfoldable pub mark_all : List Node → List (Option Pair) → List Node
mark_all t [] = t
mark_all t (p ∷ ps) = mark_all (mark t p) ps

-- the pair of each path, or none
unfoldable pub pairs : List Rec → List Node → List ℕ → List (Option Pair)
pairs rs t ls = map (λ leaf. get_contradictory_node_ids rs t (path t leaf)) ls
