use Rattle.std.proofs.Common.{rules}
use Rattle.frames.proofs.Reading.{filled}
use Rattle.frames.proofs.kept.read_full.Goals as goal

pub loop-done-preserved : goal.loop-done-preserved
loop-done-preserved g c =
    (search rules, search rules, filled _ _ _ _ _ _ _ _ c.loop-done.invariant.0 c.in-Ok.ensures.bound.0 c.loop-done.invariant.2 c.in-Ok.ensures.bytes.0)
