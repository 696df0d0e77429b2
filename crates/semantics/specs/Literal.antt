-- What a literal stands for.
use Rattle.std.specs.Prelude.{ℕ, List, [], ◌∷◌, ◌≡◌, Option, None, Some}
use Rattle.definition.specs.Records.{Rec}
use Rattle.definition.specs.Contradiction.{said, denied}
use Rattle.semantics.specs.declared.Literal.{Literal}
use Rattle.semantics.specs.declared.Claim.{Claim}
use Rattle.semantics.specs.declared.Literal.TheVariants.{Atom, Pair}

-- the atoms, in order
abbrev pub atoms_in : Option Literal → List ℕ
atoms_in None = []
atoms_in (Some (Atom a)) = a ∷ []
atoms_in (Some (Pair a b)) = a ∷ b ∷ []

-- the claim of a formula
pub record Claims (rs : List Rec) (r : Rec) (c : Claim) : Type 0 where
  pub says : atoms_in c.says ≡ said rs r
  pub denies : atoms_in c.denies ≡ denied rs r
