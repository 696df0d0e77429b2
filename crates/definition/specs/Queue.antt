-- "Queue". The names are decomposition_queue.rs's.
use Rattle.std.specs.Prelude.{Bool, cond, List, [], ◌∷◌, ◌++◌, ℕ, zero, suc, eqb, get_or}
use Rattle.std.proofs.Math.Option.{Option, none, some}
use Rattle.definition.specs.Lists.{below, or_else}
use Rattle.definition.specs.Records.{Non, Rec, number_of, is, is_nobody, rec_at, formula_of}
use Rattle.definition.specs.Setting.{Setting}
use Rattle.definition.specs.Tree.{Node, node_at}

-- 0 is first, 1 in the middle, 2 last: Atomic, Non (see below), And, Or, Imply, BiImply, StrictImply, Possible, Necessary
abbrev pub priorities : List ℕ
priorities = 2 ∷ 0 ∷ 0 ∷ 1 ∷ 1 ∷ 1 ∷ 0 ∷ 0 ∷ 0 ∷ []

-- Non of each of these
abbrev pub priorities_of_non : List ℕ
priorities_of_non = 2 ∷ 0 ∷ 1 ∷ 0 ∷ 0 ∷ 1 ∷ 0 ∷ 0 ∷ 0 ∷ []

-- so many classes, "the most urgent" first
abbrev pub class_count : ℕ
class_count = 3

abbrev pub classes : List ℕ
classes = below class_count

-- "Atomic and Non Atomic last; Or, Non And, Imply, BiImply, Non BiImply in the middle; all others, comments included, first"
unfoldable pub priority_of : Setting → List Rec → Rec → ℕ
priority_of F rs r =
    cond (is Non r) (get_or priorities_of_non (number_of (rec_at rs r.left).kind) 0) (get_or priorities (number_of r.kind) 0)

unfoldable pub get_node_priority : Setting → List Rec → List Node → ℕ → ℕ
get_node_priority F rs t x = priority_of F rs (formula_of rs (node_at t x).formula)

-- a node that is taken, and those that go on waiting
pub record Popped : Type 0 where
  pub node : ℕ
  pub others : List ℕ

-- the first that passes; `before` were passed over
unfoldable pub pop_first : (ℕ → Bool) → List ℕ → List ℕ → Option Popped
pop_first p before [] = none
pop_first p before (x ∷ xs) =
    let rest = pop_first p (before ++ (x ∷ [])) xs in
    cond (p x) (some (record { node = x; others = before ++ xs })) rest

-- the classes one after the other
unfoldable pub pop_class : Setting → List Rec → List Node → List ℕ → List ℕ → Option Popped
pop_class F rs t q [] = none
pop_class F rs t q (c ∷ cs) =
    let rest = pop_class F rs t q cs in
    or_else (pop_first (λ x. eqb (get_node_priority F rs t x) c) [] q) rest

-- "The first waiting node of the most urgent class is taken out"
unfoldable pub pop : Setting → List Rec → List Node → List ℕ → Option Popped
pop F rs t q = pop_class F rs t q classes

-- `push_tree_node`: the nodes at and below x after q, left, middle and right, then x itself; n bounds the depth. A tree meets each node once, so
-- that no test for a second time is needed
unfoldable pub push_tree_node : ℕ → List Node → List ℕ → ℕ → List ℕ
push_tree_node zero t q x = q
push_tree_node (suc n) t q x =
    let c = (node_at t x).children in
    let further = push_tree_node n t (push_tree_node n t (push_tree_node n t q c.left) c.middle) c.right ++ (x ∷ []) in
    cond (is_nobody x) q further
