-- What late and open say of the run: a late verdict is that of an unfinished one, an open verdict that of a finished one (document 02, request 2).
use Rattle.std.specs.Prelude.{◌≡◌, true, false, List, ◌↔◌, ℕ, ◌≤◌}
use Rattle.definition.specs.Limits.{world_limit}
use Rattle.definition.specs.Lists.{empty}
use Rattle.definition.specs.Records.{Rec, decode}
use Rattle.definition.specs.Setting.{Setting, setting_of}
use Rattle.definition.specs.Run.{final}
use Rattle.definition.specs.Trays.{Trays}
use Rattle.definition.specs.Call.{Verdict, Answer, refusal, verdict, answer}

-- a verdict that is not late
abbrev pub InTime : Answer → Type 0
InTime (refusal number place) = ⊥
InTime (verdict v) = v.late ≡ false

-- "Open means neither", proved nor late
abbrev pub Open : Answer → Type 0
Open (refusal number place) = ⊥
Open (verdict v) = (v.proved ≡ false) × (v.late ≡ false)

-- "the world limit is reached, proved is false and a node still waits", when the run has ended
abbrev pub Unfinished : Setting → List Rec → Verdict → Type 0
Unfinished F rs v = (world_limit ≤ v.worlds) × (v.proved ≡ false) × (empty (final F rs).waiting ≡ false)

-- nothing waits at the end of the run; a proved one may leave nodes waiting, and is neither
abbrev pub Finished : Setting → List Rec → Type 0
Finished F rs = empty (final F rs).waiting ≡ true

-- document 02: "late is set exactly if the world limit is reached, proved is false and a node still waits"; a refusal has no late
abbrev pub LateIsUnfinished : Setting → List Rec → Answer → Type 0
LateIsUnfinished F rs (refusal number place) = Unit {0}
LateIsUnfinished F rs (verdict v) = (v.late ≡ true) ↔ Unfinished F rs v

abbrev pub LateExactly : Type 0
LateExactly = (branch : List ℕ) (flags : ℕ) (lent : Trays) → LateIsUnfinished (setting_of flags) (decode branch) (answer branch flags lent)

-- nothing but the limit stops a run that is neither proved nor full while a node waits: an open verdict, with the checks skipped too, is that of a run which took
-- every node
abbrev pub OpenIsFinished : Type 0
OpenIsFinished = (branch : List ℕ) (flags : ℕ) (lent : Trays) → Open (answer branch flags lent) → Finished (setting_of flags) (decode branch)
