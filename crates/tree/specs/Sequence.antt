-- The sequence of the nodes' identifiers. Its number n is the identifier that is next, which is how many are issued; one more than `most_identifiers` says that a draw found no room.
use Rattle.std.specs.Prelude.{ℕ, suc, ◌+◌, ◌≡◌, cond, leb}
use Rattle.definition.specs.Limits.{most_identifiers}
use Rattle.definition.specs.Records.{nobody}

-- the identifier that the sequence gives next; none where `most_identifiers` are issued
unfoldable pub id_at : ℕ → ℕ
id_at n = cond (leb most_identifiers n) nobody n

-- its number once that is issued
unfoldable pub count_after : ℕ → ℕ
count_after n = cond (leb most_identifiers n) (suc most_identifiers) (n + 1)

-- what is drawn where n are issued: the identifier x, and m are issued with it
pub record Draws (n m x : ℕ) : Type 0 where
  pub id : x ≡ id_at n
  pub count : m ≡ count_after n
