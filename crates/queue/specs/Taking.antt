-- What `first_urgent` and `pop` answer.
use Rattle.std.specs.Prelude.{cond, List, ℕ, ltb, length, get_or}
use Rattle.std.specs.Prelude as Rust
use Rattle.std.proofs.Math.Option.{Option, none, some}
use Rattle.arrays.specs.Data.{without}
use Rattle.definition.specs.Queue as D
use Rattle.tree.specs.declared.ProofTreeNodeID.{ProofTreeNodeID}

-- the waiting node at position i, and the others; none past the end
unfoldable pub taken_at : List ℕ → ℕ → Option D.Popped
taken_at q i = cond (ltb i (length q)) (some (record { node = get_or q i 0; others = without q i })) none

-- the code's answer: the identifier of the node
unfoldable pub answer : Option D.Popped → Rust.Option ProofTreeNodeID
answer none = Rust.None
answer (some p) = Rust.Some (record { 0 = p.node })

-- those that wait afterwards
unfoldable pub afterwards : List ℕ → Option D.Popped → List ℕ
afterwards q none = q
afterwards q (some p) = p.others
