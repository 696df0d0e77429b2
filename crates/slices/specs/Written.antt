-- A slice while it is written: the numbers w stand over what was lent, and the next position is where w ends.
use Rattle.std.specs.Prelude.{ℕ, ◌+◌, ◌≤◌, ◌≡◌, List, ◌++◌, length}
use Rattle.definition.specs.Trays.{over}

pub record Written (lent w : List ℕ) (at : ℕ) (slice : List ℕ) : Type 0 where
  pub ends : at ≡ length w
  pub cells : slice ≡ over w lent

-- the numbers bs are written at a position, where the slice has room for them, and `next` is the position after them
pub record Puts (bs : List ℕ) (at : ℕ) (before : List ℕ) (next : ℕ) (after : List ℕ) : Type 0 where
  pub puts : (lent w : List ℕ) → Written lent w at before → length w + length bs ≤ length lent → Written lent (w ++ bs) next after
