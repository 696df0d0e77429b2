use mathlib.Core.Path.{◌≡◌}
use mathlib.Core.List.{[]}
use Rattle.std.specs.Slice.Iter.{chunks_exact_rest, chunks_exact_size}
use Rattle.definition.specs.Limits.{record_length}
use Rattle.definition.specs.Records.{decode}
use Rattle.formula.specs.Recorded.{HasRecords}
use Rattle.branch.proofs.Growth.{Growth}
use Rattle.branch.proofs.read_records.Given as goal

-- The records written so far and those that the chunks left still give are all records of the branch.
abbrev pub invariant-loop-bytes : goal.invariant-loop-bytes
invariant-loop-bytes l =
    (chunks_exact_size l.bytes-iterator ≡ record_length)
    × (HasRecords [] l.initial.formulas → Growth (λ rs. HasRecords rs l.formulas) (decode l.branch) (decode (chunks_exact_rest l.bytes-iterator)))
