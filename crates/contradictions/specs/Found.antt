-- What the search of a path found.
use Rattle.std.specs.Prelude as Rust
use Rattle.std.proofs.Math.Option.{Option, none, some}
use Rattle.definition.specs.Contradiction.{Pair, pair}
use Rattle.contradictions.specs.declared.Contradiction.{Contradiction}

-- no pair, or the pair of the later and the earlier node
abbrev pub found : Rust.Option Contradiction → Option Pair
found Rust.None = none
found (Rust.Some c) = some (pair c.later.0 c.earlier.0)
