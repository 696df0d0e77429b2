use Rattle.std.specs.Prelude as Rust
use Rattle.std.proofs.Math.Option.{Option, none, some}
use Rattle.definition.specs.Modality.{Fork}
use Rattle.modality.specs.declared.Forking.{Forking}

-- the fork in progress
abbrev pub fork_of : Rust.Option Forking → Option Fork
fork_of Rust.None = none
fork_of (Rust.Some f) = some (record { node = f.node.0; world = f.world.0 })
