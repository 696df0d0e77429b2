use Rattle.frames.specs.Window.{Reads}
use Rattle.frames.proofs.kept.Kept.read_all.Given as goal

-- After each read the window of all that was read is kept.
abbrev pub invariant-loop : goal.invariant-loop
invariant-loop g l = Reads (g.R.Read.remaining l.initial.input) (g.R.Read.remaining l.input) l.self.bytes l.self.seen
