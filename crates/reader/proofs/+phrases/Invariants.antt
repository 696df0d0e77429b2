use Rattle.std.proofs.Common.{◌+◌, ◌*◌, ◌-◌}
use Rattle.definition.specs.Limits.{most_text}
use Rattle.reader.proofs.Levels.{Adding}
use Rattle.reader.proofs.+phrases.Given as goal

abbrev pub decreases-grouped_left : goal.decreases-grouped_left
decreases-grouped_left l = 16 * (most_text - l.first) + 15

abbrev pub decreases-grouped_right : goal.decreases-grouped_right
decreases-grouped_right l = 16 * (most_text - l.first) + 15

abbrev pub decreases-operand : goal.decreases-operand
decreases-operand l = 16 * (most_text - l.at)

abbrev pub decreases-phrase : goal.decreases-phrase
decreases-phrase l = 16 * (most_text - l.at) + 2 * l.level + 1

abbrev pub decreases-tighter : goal.decreases-tighter
decreases-tighter l = 16 * (most_text - l.at) + 2 * l.level

abbrev pub invariant-grouped_left-loop-joint : goal.invariant-grouped_left-loop-joint
invariant-grouped_left-loop-joint l = Adding l.words l.initial.end l.fn.records.count l.level l.fn.records.bytes l.records.bytes l.end l.records.count

abbrev pub decreases-grouped_left-loop-joint : goal.decreases-grouped_left-loop-joint
decreases-grouped_left-loop-joint l = most_text - l.end
