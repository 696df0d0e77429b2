use mathlib.Core.Path.{refl}
use Rattle.cases.proofs.Filed.{takes_next}
use Rattle.cases.proofs.reading.feed_all.Goals as goal

pub loop-b-preserved : goal.loop-b-preserved
loop-b-preserved g c = takes_next _ _ c.loop-b-test.true refl c.loop-b.invariant c.feed-after.ensures
