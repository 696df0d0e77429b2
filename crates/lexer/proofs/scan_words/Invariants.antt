use Rattle.std.proofs.Common.{◌-◌, length}
use Rattle.lexer.proofs.Scanning.{Sofar}
use Rattle.lexer.proofs.scan_words.Given as goal

abbrev pub invariant-loop-next : goal.invariant-loop-next
invariant-loop-next l = Sofar l.text l.initial.words l.words l.at l.count l.awaited

abbrev pub decreases-loop-next : goal.decreases-loop-next
decreases-loop-next l = length l.text - l.at
