-- The leaves below a node that a walk down lists.
use Rattle.std.specs.Prelude.{Bool, cond, List, [], ◌∷◌, ◌++◌, ℕ, zero, suc}
use Rattle.definition.specs.Records.{is_nobody}
use Rattle.definition.specs.Tree.{Node, node_at, is_leaf}

-- the leaves at and below x, left, then middle, then right, but none at or below a node that p leaves out; n bounds the depth
unfoldable pub leaves_outside : (ℕ → Bool) → ℕ → List Node → ℕ → List ℕ
leaves_outside p zero t x = cond (is_nobody x) [] (cond (p x) [] (x ∷ []))
leaves_outside p (suc n) t x =
    let c = (node_at t x).children in
    let further = leaves_outside p n t c.left ++ (leaves_outside p n t c.middle ++ leaves_outside p n t c.right) in
    cond (is_nobody x) [] (cond (p x) [] (cond (is_leaf c) (x ∷ []) further))
