use Rattle.cases.proofs.Filed.{Begun}
use Rattle.cases.proofs.reading.read_file.Given as goal

-- After each read the line and the tally are what the bytes read so far make of an empty line and the tally at the start.
abbrev pub invariant-loop : goal.invariant-loop
invariant-loop g l = Begun l.fn.tally l.line.items l.at
