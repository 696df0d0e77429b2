use mathlib.Core.Path.{refl, sym, ◌∙◌}
use Rattle.definition.specs.Records.{number_of, formula_of}
use Rattle.formula.proofs.Formulas.formula_kind.Goals as goal

pub returns-then-eq : goal.returns-then-eq
unfolding formula_of number_of
returns-then-eq c = λ rs p h. rw (sym c.eq.ensures ∙ c.if-eq.true) refl

pub returns : goal.returns
unfolding formula_of
returns c = λ rs p h. rw (sym c.eq.ensures ∙ c.if-eq.false) (c.kind_at.ensures rs p h)
