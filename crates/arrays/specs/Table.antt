-- A list in a table with room for so many entries, and its count; blanks stand after the last entry. A count above the room says that the
-- list is too long, and nothing of the entries. One more than the room can be counted.
use Rattle.std.specs.Prelude.{ℕ, ◌+◌, ◌-◌, ◌^◌, ◌≤◌, ◌<◌, ◌≡◌, List, ◌++◌, length, replicate}
use Rattle.arrays.specs.declared.Table.{Table}

unfoldable pub filled : {A : Type 0} → ℕ → A → List A → List A
filled room blank l = l ++ replicate (room - length l) blank

pub data Tabled {A : Type 0} (room : ℕ) (blank : A) (l : List A) (n : ℕ) (a : List A) : Type 0 where
  tabled : room + 1 < 2 ^ 64 → n ≤ room → length l ≡ n → a ≡ filled room blank l → Tabled room blank l n a
  too_many : room + 1 < 2 ^ 64 → room < n → room < length l → Tabled room blank l n a

-- the struct holds the list
abbrev pub Holds : {A : Type 0} {N : ℕ} → A → List A → Table A N → Type 0
Holds {N = N} blank l t = Tabled N blank l t.len t.entries
