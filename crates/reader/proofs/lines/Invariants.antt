use Rattle.std.proofs.Common.{◌+◌, ◌-◌}
use Rattle.definition.specs.Limits.{most_text}
use Rattle.reader.proofs.Sofar.{Reading}
use Rattle.reader.proofs.lines.Given as goal

abbrev pub invariant-loop-records : goal.invariant-loop-records
invariant-loop-records l = Reading l.words l.records.bytes l.at l.records.count

abbrev pub decreases-loop-records : goal.decreases-loop-records
decreases-loop-records l = (most_text + 1) - l.at
