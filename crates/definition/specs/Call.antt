-- The whole call: what it answers to a byte string, a flag byte and three lent trays, and what the trays then hold.
use Rattle.std.specs.Prelude.{Bool, ◌&&◌, not, cond, List, ℕ, leb, length}
use Rattle.std.proofs.Math.Option.{Option, none, some}
use Rattle.definition.specs.Limits.{world_limit}
use Rattle.definition.specs.RefusalNumbers.{too_many_identifiers}
use Rattle.definition.specs.Lists.{empty}
use Rattle.definition.specs.Records.{decode}
use Rattle.definition.specs.Setting.{Setting, setting_of}
use Rattle.definition.specs.Checks.{Lengths, Check, refused}
use Rattle.definition.specs.Run.{State, full, final}
use Rattle.definition.specs.Trays.{Trays, trays_of, zero_trays, laid_over}

-- refused before the run, by the check that applied; full; or the state at the end of the run
pub data Outcome : Type 0 where
  Refused : Check → Outcome
  Full : Outcome
  Ended : State → Outcome

unfoldable pub outcome_of_run : State → Outcome
outcome_of_run s = cond (full s) Full (Ended s)

unfoldable pub outcome_by : List ℕ → ℕ → Option Check → Outcome
outcome_by bytes flags (some c) = Refused c
outcome_by bytes flags none = outcome_of_run (final (setting_of flags) (decode bytes))

unfoldable pub outcome : List ℕ → ℕ → Lengths → Outcome
outcome bytes flags lent = outcome_by bytes flags (refused bytes flags lent)

-- document 02: "late is set exactly if the world limit is reached, proved is false and a node still waits"
unfoldable pub late : Setting → State → Bool
late F s = leb world_limit s.graph.worlds && (not s.proved && not (empty s.waiting))

-- "one verdict or one refusal": a refusal's number and record number; or
-- "proved, late, and the counts of identifiers, formulas (input and made), worlds and steps"
pub record Verdict : Type 0 where
  pub proved : Bool
  pub late : Bool
  pub identifiers : ℕ
  pub formulas : ℕ
  pub worlds : ℕ
  pub steps : ℕ

pub data Answer : Type 0 where
  refusal : ℕ → ℕ → Answer
  verdict : Verdict → Answer

unfoldable pub answer_of : Setting → Outcome → Answer
answer_of F (Refused c) = refusal c.number c.place
answer_of F Full = refusal too_many_identifiers 0
answer_of F (Ended s) =
    verdict
    (record {
      proved = s.proved;
      late = late F s;
      identifiers = length s.nodes;
      formulas = length s.formulas;
      worlds = s.graph.worlds;
      steps = s.steps;
    })

-- "Refusals 1 to 11 write nothing; 12 zeroes the three lengths"
unfoldable pub trays_after : Outcome → Trays → Trays
trays_after (Refused c) lent = lent
trays_after Full lent = laid_over zero_trays lent
trays_after (Ended s) lent = laid_over (trays_of s) lent

abbrev pub lengths_of : Trays → Lengths
lengths_of t = record { nodes = length t.nodes; formulas = length t.formulas; edges = length t.edges }

-- the call's answer, and the trays that it leaves
unfoldable pub answer : List ℕ → ℕ → Trays → Answer
answer branch flags lent = answer_of (setting_of flags) (outcome branch flags (lengths_of lent))

unfoldable pub trays_left : List ℕ → ℕ → Trays → Trays
trays_left branch flags lent = trays_after (outcome branch flags (lengths_of lent)) lent
