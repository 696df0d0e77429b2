-- A consequence as the rule on record numbers.
use Rattle.std.specs.Prelude.{ℕ, [], ◌∷◌}
use Rattle.definition.specs.Rules.{Rule, nothing, down, split, as_possible, as_necessary}
use Rattle.rules.specs.declared.Consequence.{Consequence}
use Rattle.rules.specs.declared.Consequence.TheVariants.{Nothing, Down1, Down2, Split1, Split2, AsPossible, AsNecessary}

abbrev pub consequence_of : Consequence → Rule ℕ
consequence_of Nothing = nothing
consequence_of (Down1 p) = down (p.0 ∷ [])
consequence_of (Down2 p q) = down (p.0 ∷ q.0 ∷ [])
consequence_of (Split1 p q) = split (p.0 ∷ []) (q.0 ∷ [])
consequence_of (Split2 p q s t) = split (p.0 ∷ q.0 ∷ []) (s.0 ∷ t.0 ∷ [])
consequence_of (AsPossible p) = as_possible p.0
consequence_of (AsNecessary p) = as_necessary p.0
