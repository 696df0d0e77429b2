use Rattle.rules.proofs.RecordsMade.{expands_as}
use Rattle.rules.proofs.Choice.{chosen}
use Rattle.rules.proofs.expand.Goals as goal

pub returns : goal.returns
returns c = λ rs h. expands_as _ _ h (λ g. chosen _ _ _ _ _ _ _ h g (c.formula_kind-outer.ensures rs h g) (c.left_at-denied.ensures rs h g) (c.kind_at-inner.ensures rs h g) c.ruled_formula-ruled.ensures (c.left_at-p.ensures rs h g) (c.right_at-q.ensures rs h g) c.rule_of.ensures) (c.expand_by.ensures rs h)
