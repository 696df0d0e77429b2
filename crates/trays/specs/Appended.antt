-- What a writer is once a record is appended.
use Rattle.std.specs.Prelude.{List, ℕ}
use Rattle.slices.specs.Written.{Puts}
use Rattle.trays.specs.declared.NodeWriter.{NodeWriter}

-- the numbers bs stand at the writer's position, and the position is the one after them
pub record Appends (bs : List ℕ) (before after : NodeWriter) : Type 0 where
  pub puts : Puts bs before.at before.tray.now after.at after.tray.now
