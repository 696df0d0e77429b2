use mathlib.Core.Path.{refl}
use Rattle.tree.proofs.Nodes.{changed}
use Rattle.tree.proofs.ProofTree.change.Goals as goal

pub returns : goal.returns
returns g c = (refl, λ ns f gives p. changed _ f p (goal.F-post g c.args.f) _ _ c.if-self-gt-MOST_IDENTIFIERS.false c.if-self-i.false c.f.ensures gives)
