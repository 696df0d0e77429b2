use mathlib.Core.Path.{refl}
use Rattle.subtree.proofs.Chains.{turned_chain}
use Rattle.subtree.proofs.turned.Goals as goal

pub returns : goal.returns
returns c = (turned_chain c.args.c _ refl refl refl, refl, refl)
