use native.Mathlib.Omega.{arith}
use Rattle.std.proofs.lemmas.Grind.{common_steps}
use Rattle.definition.specs.Records.{number_of}
use Rattle.definition.specs.Contradiction.{denied}
use Rattle.semantics.proofs.Literals.{denied_formula}
use Rattle.semantics.proofs.denied.Goals as goal

pub returns-then-kind_at : goal.returns-then-kind_at
unfolding denied number_of
returns-then-kind_at c = λ rs p h. rw (denied_formula p h _) (grind (arith, common_steps, c.kind_at.ensures rs p h))

pub returns : goal.returns
unfolding denied number_of
returns c = λ rs p h. rw (denied_formula p h _) (grind (arith, common_steps, c.kind_at.ensures rs p h, c.left_at.ensures rs p h, c.atoms_of.ensures rs p h))
