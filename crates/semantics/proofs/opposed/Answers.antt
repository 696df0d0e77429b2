use mathlib.Core.Path.{◌≡◌, refl, sym, ◌∙◌}
use mathlib.Core.Bool.{and-true, and-false}
use Rattle.std.specs.Option.{is_some, option_eq}
use Rattle.std.specs.Prelude.{Option, None, Some, ◌&&◌}
use Rattle.definition.specs.Contradiction.{opposed}
use Rattle.semantics.specs.declared.Literal.{Literal}
use Rattle.semantics.specs.declared.Literal.TheVariants.{Atom, Pair}
use Rattle.semantics.specs.contracts.LiteralPartialEq.TheImpl.{eq-value}
use Rattle.semantics.specs.Literal.{atoms_in}
use Rattle.semantics.proofs.opposed.Goals as goal

-- equal literals have equal lists of atoms
same_atoms : (p q : Option Literal) → (is_some p && option_eq eq-value.it p q) ≡ opposed (atoms_in p) (atoms_in q)
unfolding opposed
same_atoms None q = refl
same_atoms (Some (Atom a)) None = refl
same_atoms (Some (Pair a b)) None = refl
same_atoms (Some (Atom a)) (Some (Atom x)) = simp and-true
same_atoms (Some (Atom a)) (Some (Pair x y)) = simp and-false
same_atoms (Some (Pair a b)) (Some (Atom x)) = simp and-false
same_atoms (Some (Pair a b)) (Some (Pair x y)) = simp and-true

pub returns-then-is_some : goal.returns-then-is_some
returns-then-is_some c = rw (c.eq.ensures, ← same_atoms, sym c.is_some.ensures ∙ c.if-is_some.true) refl

pub returns-else-is_some : goal.returns-else-is_some
returns-else-is_some c = rw (← same_atoms, sym c.is_some.ensures ∙ c.if-is_some.false) c.if-is_some.false
