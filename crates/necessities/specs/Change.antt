-- What a function does to one row of a table of bits.
use Rattle.std.specs.Prelude.{ℕ, ◌≡◌, List, ◌++◌, ◌≢◌, length}
use Rattle.limits.specs.Arrays.{leaf_words}
use Rattle.necessities.specs.Stored.{InRow}

-- from a to b every row but row k keeps its numbers
pub record OtherRowsKept (k : ℕ) (a b : List ℕ) : Type 0 where
  pub long : length a ≡ leaf_words → length b ≡ leaf_words
  pub others : (j : ℕ) (l : List ℕ) → j ≢ k → InRow j l a → InRow j l b

-- from a to b the numbers of the list come to row k
pub record Added (k : ℕ) (l : List ℕ) (a b : List ℕ) : Type 0 where
  pub kept : OtherRowsKept k a b
  pub here : (old : List ℕ) → InRow k old a → InRow k (old ++ l) b
