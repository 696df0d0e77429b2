-- Targeted subtrees that are one middle chain of rising identifiers, in a table.
use Rattle.std.specs.Prelude.{◌≡◌, ℕ, ◌+◌, ◌≤◌, ◌<◌, not, List, ◌++◌, map, eqb}
use Rattle.definition.specs.Limits.{most_identifiers}
use Rattle.arrays.specs.Table.{Tabled}
use Rattle.definition.specs.Lists.{up_from, filter, Each}
use Rattle.definition.specs.Subtree.{Targeted, with_middle}
use Rattle.subtree.specs.declared.TargetedChain.{TargetedChain}
use Rattle.subtree.specs.declared.Items as Rust

pub record Item : Type 0 where
  pub target : ℕ
  pub start : ℕ
  pub count : ℕ

abbrev pub item_from : Item → Targeted
item_from r = record { target = r.target; subtree = with_middle (up_from r.count r.start) }

-- an item as it is stored; what stands where there is none
abbrev pub stored : Item → TargetedChain
stored r = record { target = record { 0 = r.target }; start = record { 0 = r.start }; count = r.count }

abbrev pub no_chain : TargetedChain
no_chain = record { target = record { 0 = 0 }; start = record { 0 = 0 }; count = 0 }

-- the rows that have a node; a row that has none places nothing
abbrev pub filled : List Item → List Item
filled = filter (λ (r : Item). not (eqb r.count 0))

-- The table holds those rows, whose identifiers are below m. A count above `most_identifiers` says that there are more identifiers than
-- that, and nothing of the entries.
pub data ItemsHeld (rs : List Item) (n : ℕ) (a : List TargetedChain) (m : ℕ) : Type 0 where
  rows : n ≤ most_identifiers → n ≤ m → Tabled most_identifiers no_chain (map stored (filled rs)) n a → Each (λ (r : Item). r.start + r.count ≤ m) (filled rs) → ItemsHeld rs n a m
  too_many : most_identifiers < n → most_identifiers < m → ItemsHeld rs n a m

-- the struct holds those rows
abbrev pub HasItems : List Item → Rust.Items → ℕ → Type 0
HasItems rs x m = ItemsHeld rs x.chains.len x.chains.entries m

-- the rows are those of rs, and then those of the subtrees
pub record Listing (rs : List Item) (more : List Targeted) (x : Rust.Items) (nodes : ℕ) : Type 0 where
  pub all : List Item
  pub rows : HasItems all x nodes
  pub are : map item_from all ≡ map item_from rs ++ more
