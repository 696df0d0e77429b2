-- The states of a run: what the engine's step may be asked to go on from.
use Rattle.std.specs.Prelude.{◌≡◌, List, ℕ}
use Rattle.std.proofs.Math.Option.{none}
use Rattle.definition.specs.Records.{decode}
use Rattle.definition.specs.Checks.{Lengths, refused}
use Rattle.definition.specs.Setting.{Setting, setting_of}
use Rattle.definition.specs.Run.{State, start, run}

-- a state of the run of an accepted branch: what so many steps make of its start
pub record Reached (F : Setting) (s : State) : Type 0 where
  pub bytes : List ℕ
  pub flags : ℕ
  pub lent : Lengths
  pub accepted : refused bytes flags lent ≡ none
  pub setting : F ≡ setting_of flags
  pub count : ℕ
  pub is : s ≡ run count F (start F (decode bytes))
