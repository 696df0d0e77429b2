-- The cases of the answer, as document 01 has them: a refusal's number and record number; or
-- "proved, late, and the counts of identifiers, formulas (input and made), worlds and steps".
use Rattle.std.specs.Prelude.{Result, Ok, Err}
use Rattle.definition.specs.Call
use Rattle.definition.specs.Call.{refusal, verdict}
use Rattle.refusal.specs.Number.{number_of}
use Rattle.refusal.specs.declared.Refusal.{Refusal}
use Rattle.prover.specs.declared.Verdict.{Verdict}

unfoldable pub said : Result Verdict Refusal → Call.Answer
said (Err r) = refusal (number_of r.reason) r.place
said (Ok v) =
    verdict
    (record {
      proved = v.proved;
      late = v.late;
      identifiers = v.identifiers;
      formulas = v.formulas;
      worlds = v.worlds;
      steps = v.steps;
    })
