use lib.ListN.{take}
use Rattle.cases.specs.File.{Takes}
use Rattle.cases.proofs.reading.feed_all.Given as goal

-- At every turn the line and the tally are what the bytes before the index make of those at the start.
abbrev pub invariant-loop-b : goal.invariant-loop-b
invariant-loop-b g l = Takes l.initial.line.items l.initial.after (take l.b-index l.part) l.line.items l.after
