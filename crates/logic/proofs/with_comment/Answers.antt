use Rattle.logic.proofs.Forked.{commented}
use Rattle.logic.proofs.with_comment.Goals as goal

pub returns : goal.returns
returns c = commented _ _ c.with_middle.ensures.0 c.with_middle.ensures.1 c.with_middle.ensures.2
