-- A comment, and what is no literal, beside what a record says and denies.
use Prim.Native.Nat.{ℕ, ◌≤◌}
use mathlib.Core.Path.{◌≡◌, refl, subst}
use mathlib.Core.Bool.{false}
use mathlib.Core.List.{List, [], ◌∷◌}
use Rattle.definition.specs.Limits.{most_formulas}
use Rattle.definition.specs.Records.{Rec, number_of, rec_at, formula_of}
use Rattle.definition.specs.Contradiction.{atom_of, atoms_of, said, denied, opposed}
use Rattle.std.specs.Option.{is_some}
use Rattle.std.specs.Prelude.{Option, None, Some}
use Rattle.semantics.specs.declared.Literal.{Literal}
use Rattle.semantics.specs.Literal.{atoms_in}
use Rattle.formula.specs.declared.Record.{Record}
use Rattle.formula.specs.Recorded.{Recorded}
use Rattle.formula.proofs.Numbers.{formula_as}

-- ---- a comment says and denies nothing
module _ {rs : List Rec} {n : ℕ} {a : List Record} (p : Recorded rs n a) (h : n ≤ most_formulas) (f : ℕ) where
  pub said_formula : said rs (formula_of rs f) ≡ said rs (rec_at rs f)
  unfolding said atoms_of atom_of number_of
  said_formula = formula_as (said rs) refl p h f

  pub denied_formula : denied rs (formula_of rs f) ≡ denied rs (rec_at rs f)
  unfolding denied number_of
  denied_formula = formula_as (denied rs) refl p h f

-- ---- opposed
pub none_opposed : (xs : List ℕ) → false ≡ opposed xs []
unfolding opposed
none_opposed [] = refl
none_opposed (x ∷ xs) = refl

-- what is no literal is opposed to nothing
pub nothing_opposed : (us : List ℕ) {ws : List ℕ} (o : Option Literal) → is_some o ≡ false → atoms_in o ≡ ws → false ≡ opposed us ws
nothing_opposed us None h q = subst (λ (l : List ℕ). false ≡ opposed us l) q (none_opposed us)
nothing_opposed us (Some o) h q = cc
