-- What a run is asked with. What depends on any of it takes the whole; so do the urgency of a node, the stop and late, which are the same for every setting.
use Rattle.std.specs.Prelude.{Bool, not, ◌&&◌, ℕ, ◌/◌, ◌%◌, eqb}

pub record Setting : Type 0 where
  pub reflexive : Bool
  pub symmetric : Bool
  pub transitive : Bool
  pub skip : Bool

-- "The flag byte: 1 reflexive, 2 symmetric, 4 transitive, 8 skip contradiction checks."
unfoldable pub setting_of : ℕ → Setting
setting_of flags =
    let bit : ℕ → Bool = λ value. eqb (flags / value % 2) 1 in
    record { reflexive = bit 1; symmetric = bit 2; transitive = bit 4; skip = bit 8 }

-- "symmetric and transitive without reflexive": a world that reaches some world then reaches itself, but a world may reach none
unfoldable pub partial_equivalence : Setting → Bool
partial_equivalence F = F.symmetric && (F.transitive && not F.reflexive)
