-- Laws of kinds and their numbers.
use Prim.Native.Nat.{ℕ, ◌<◌}
use mathlib.Core.Path.{◌≡◌, refl, sym}
use mathlib.Core.List.{[], ◌∷◌}
use native.Mathlib.Omega.{arith}
use lib.ListN.{get_or-eq_default}
use denote.Enum.Declared.{tag_of}
use Rattle.definition.specs.Records as D
use Rattle.definition.specs.Records.{number_of, kind_of}
use Rattle.formula.specs.Kinds.{kind_meant}
use Rattle.formula.specs.contracts.Kind.{the_type}
use Rattle.formula.specs.declared.Kind.{Kind}
use Rattle.formula.specs.declared.Kind.TheVariants.{Atomic, Non, And, Or, Imply, BiImply, StrictImply, Possible, Necessary}

-- the table has nine kinds
pub unknown : (k : ℕ) → 8 < k → D.Unknown ≡ kind_of k
unfolding kind_of
unknown k h =
    sym (get_or-eq_default (D.Atomic ∷ D.Non ∷ D.And ∷ D.Or ∷ D.Imply ∷ D.BiImply ∷ D.StrictImply ∷ D.Possible ∷ D.Necessary ∷ []) D.Unknown {n = k} (omega arith))

-- a variant's number
pub number_of_tag : (k : Kind) → tag_of the_type k ≡ number_of (kind_meant k)
unfolding number_of
number_of_tag Atomic = refl
number_of_tag Non = refl
number_of_tag And = refl
number_of_tag Or = refl
number_of_tag Imply = refl
number_of_tag BiImply = refl
number_of_tag StrictImply = refl
number_of_tag Possible = refl
number_of_tag Necessary = refl

-- and the kind of it
pub kind_of_tag : (k : Kind) → kind_of (tag_of the_type k) ≡ kind_meant k
unfolding kind_of
kind_of_tag Atomic = refl
kind_of_tag Non = refl
kind_of_tag And = refl
kind_of_tag Or = refl
kind_of_tag Imply = refl
kind_of_tag BiImply = refl
kind_of_tag StrictImply = refl
kind_of_tag Possible = refl
kind_of_tag Necessary = refl

pub number_known : (k : Kind) (n : ℕ) → kind_meant k ≡ kind_of n → tag_of the_type k ≡ number_of (kind_of n)
number_known k n e = rw (← e) (number_of_tag k)
