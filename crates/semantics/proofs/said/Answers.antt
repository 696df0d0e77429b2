use native.Mathlib.Omega.{arith}
use Rattle.std.proofs.lemmas.Grind.{common_steps}
use Rattle.definition.specs.Records.{number_of}
use Rattle.definition.specs.Contradiction.{said}
use Rattle.semantics.proofs.Literals.{said_formula}
use Rattle.semantics.proofs.said.Goals as goal

pub returns-then-kind_at : goal.returns-then-kind_at
unfolding said number_of
returns-then-kind_at c = λ rs p h. rw (said_formula p h _) (grind (arith, common_steps, c.kind_at.ensures rs p h, c.atoms_of.ensures rs p h))

pub returns-then-kind_at-2 : goal.returns-then-kind_at-2
unfolding said number_of
returns-then-kind_at-2 c = λ rs p h. rw (said_formula p h _)
    (grind (arith, common_steps, c.kind_at.ensures rs p h, c.left_at-p.ensures rs p h, c.kind_at-2.ensures rs p h, c.atoms_of-then-kind_at-2.ensures rs p h))

pub returns : goal.returns
unfolding said number_of
returns c = λ rs p h. rw (said_formula p h _)
    (grind (arith, common_steps, c.kind_at.ensures rs p h, c.left_at-p.ensures rs p h, c.kind_at-2.ensures rs p h, c.left_at.ensures rs p h, c.atom_of.ensures rs p h))
