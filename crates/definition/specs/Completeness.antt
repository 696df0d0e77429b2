-- What a verdict says beyond demand 3, where contradiction checks were not skipped: an open one has a model, and one that is not late is exact.
-- The papers claim neither.
use Rattle.std.specs.Prelude.{◌≡◌, false, List, ◌↔◌, ℕ, ◌<◌}
use Rattle.definition.specs.Records.{Rec, decode}
use Rattle.definition.specs.Formula.{Form, branch_of}
use Rattle.definition.specs.Setting.{Setting, setting_of, partial_equivalence}
use Rattle.definition.specs.Models.{Model, Has}
use Rattle.definition.specs.Run.{final}
use Rattle.definition.specs.Trays.{Trays}
use Rattle.definition.specs.Call.{answer}
use Rattle.definition.specs.Claim.{Proved, Satisfied, NoModel}
use Rattle.definition.specs.Finished.{InTime, Open}
use Rattle.definition.specs.Countermodel.{Countermodel}

-- at the end of the run, the model read off the first open path is one of the branch
abbrev pub HasCountermodel : Setting → List Rec → Type 0
HasCountermodel F rs = (leaf : ℕ) × Countermodel F rs (final F rs) leaf

-- so there is a finite model with the flagged properties, and a world of it that makes every formula of ps true
abbrev pub HasModel : Setting → List Form → Type 0
HasModel F ps = (M : Model) × Has F M × (w : ℕ) × (w < M.size) × Satisfied ps M w

-- "8 skip contradiction checks" is not set
abbrev pub ChecksContradictions : Setting → Type 0
ChecksContradictions F = F.skip ≡ false

-- whatever the frame properties: an open verdict has a model
abbrev pub Complete : Type 0
Complete =
    (branch : List ℕ) (flags : ℕ) (lent : Trays) → ChecksContradictions (setting_of flags) → Open (answer branch flags lent) → HasCountermodel (setting_of flags) (decode branch)

-- unless the flags are symmetric and transitive without reflexive, where demand 3 speaks only of worlds that reach some world: a verdict that is not late
-- is proved exactly if there is no model
abbrev pub ExactInTime : Type 0
ExactInTime =
    (branch : List ℕ) (flags : ℕ) (lent : Trays) → ChecksContradictions (setting_of flags) → partial_equivalence (setting_of flags) ≡ false → InTime (answer branch flags lent) →
    (Proved (answer branch flags lent) ↔ NoModel (setting_of flags) (branch_of (decode branch)))
