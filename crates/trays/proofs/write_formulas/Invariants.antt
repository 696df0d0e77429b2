use Prim.Native.Nat.{◌<◌}
use Rattle.definition.specs.Lists.{Each}
use mathlib.Core.List.{List}
use Rattle.definition.specs.Records.{Rec}
use Rattle.definition.specs.Trays.{record_bytes}
use Rattle.formula.specs.Recorded.{HasRecords}
use Rattle.slices.proofs.Parts.{Parts}
use Rattle.trays.proofs.write_formulas.Given as goal

-- After i turns the records of the first i formulas are written, and the rest of the tray is as it was; then zeros follow.
abbrev pub invariant-loop-i : goal.invariant-loop-i
invariant-loop-i l = (rs : List Rec) → HasRecords rs l.formulas → Each (λ (r : Rec). r.mark < 256) rs → Parts record_bytes rs l.initial.tray l.i l.at l.tray
