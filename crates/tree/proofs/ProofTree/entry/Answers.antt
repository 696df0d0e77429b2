use Rattle.tree.proofs.Entries.{read_at}
use Rattle.tree.proofs.ProofTree.entry.Goals as goal

pub returns : goal.returns
returns c = λ ns z. read_at ns c.args.x.0 _ z c.if-i-ge-MOST_IDENTIFIERS.false
