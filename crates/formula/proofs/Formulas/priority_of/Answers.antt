use Rattle.formula.proofs.Numbers.{class_of}
use Rattle.formula.proofs.Formulas.priority_of.Goals as goal

pub returns : goal.returns
returns c = λ F rs p h. class_of F _ _ _ _ _ p h (c.formula_kind-outer.ensures rs p h) (c.left_at.ensures rs p h)
    (c.kind_at-inner.ensures rs p h) c.priority_by.ensures
