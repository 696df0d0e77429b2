use Rattle.std.proofs.Common.{rules}
use Rattle.reader.proofs.Sofar.{reading_start, lines_lost, lines_end}
use Rattle.reader.proofs.lines.Goals as goal

pub loop-records-init : goal.loop-records-init
loop-records-init c = reading_start c.args.words.now c.args.records.now.bytes c.args.records.now.count c.requires

pub returns-in_default : goal.returns-in_default
returns-in_default c = lines_lost c.args.words.now _ _ c.loop-records.at _ _ c.word_at.result c.loop-records.invariant c.word_at.ensures (search rules) c.in_default.ensures

pub returns : goal.returns
returns c = lines_end c.args.words.now _ _ _ c.word_at.result c.loop-records.invariant c.word_at.ensures (search rules)
