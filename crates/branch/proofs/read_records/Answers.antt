use mathlib.Core.Path.{◌∙◌}
use native.Mathlib.Omega.{arith}
use Rattle.checks.proofs.Chunks.{decode_next, decode_none}
use Rattle.branch.proofs.Growth.{growth_as, growth_next, growth_end}
use Rattle.branch.proofs.read_records.Goals as goal

pub loop-bytes-preserved : goal.loop-bytes-preserved
loop-bytes-preserved c =
    let (size, g) = c.loop-bytes.invariant in
    let (same, (cut, six), k) = c.in-Some.ensures.steps in
    (same ∙ size, λ p. growth_next _ c.push_input.ensures (growth_as _ (decode_next _ _ (six ∙ size) cut c.read_record.ensures) (g p)))

pub returns : goal.returns
returns c =
    let (size, g) = c.loop-bytes.invariant in
    λ p. growth_end (growth_as _ (decode_none _ (omega (arith, c.in-None.ensures.steps, size))) (g p))
