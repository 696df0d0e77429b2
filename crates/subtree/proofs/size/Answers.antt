use mathlib.Core.Path.{sym}
use Rattle.subtree.proofs.Subtrees.{size_of}
use Rattle.subtree.proofs.size.Goals as goal

pub returns : goal.returns
returns c = sym (size_of c.args.s)
