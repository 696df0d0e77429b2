use Rattle.proof.proofs.Applying.{here_after}
use Rattle.proof.proofs.append_here.Goals as goal

pub returns : goal.returns
returns c = λ s recs q b. here_after s _ recs _ q b (c.apply_here-subtree.ensures s.nodes) c.append_subtree.ensures
