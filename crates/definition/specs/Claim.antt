-- Demand 3, whole, of the defined call: "if a verdict is returned in which `proved` is true, late beside it or not, then no world of any finite Kripke model
-- with the flagged properties (..), however large, makes every formula of the branch true. Where the flags are symmetric and transitive
-- without reflexive, that is claimed only of the worlds that reach some world, be it themselves."
use Rattle.std.specs.Prelude.{◌≡◌, true, List, ℕ, ◌<◌}
use Rattle.definition.specs.Lists.{Each}
use Rattle.definition.specs.Records.{decode}
use Rattle.definition.specs.Formula.{Form, branch_of}
use Rattle.definition.specs.Setting.{Setting, setting_of, partial_equivalence}
use Rattle.definition.specs.Models.{Model, Has, truth}
use Rattle.definition.specs.Trays.{Trays}
use Rattle.definition.specs.Call.{Answer, refusal, verdict, answer}

abbrev pub Proved : Answer → Type 0
Proved (refusal number place) = ⊥
Proved (verdict v) = v.proved ≡ true

-- the world w, where the flags ask for it, reaches some world
abbrev pub Reaching : Setting → Model → ℕ → Type 0
Reaching F M w = partial_equivalence F ≡ true → (v : ℕ) × (v < M.size) × (M.reach w v ≡ true)

-- the world w makes every formula of ps true
abbrev pub Satisfied : List Form → Model → ℕ → Type 0
Satisfied ps M w = Each (λ p. truth M p w ≡ true) ps

abbrev pub NoModel : Setting → List Form → Type 0
NoModel F ps = (M : Model) → Has F M → (w : ℕ) → w < M.size → Reaching F M w → Satisfied ps M w → ⊥

abbrev pub Demand3 : Type 0
Demand3 = (branch : List ℕ) (flags : ℕ) (lent : Trays) → Proved (answer branch flags lent) → NoModel (setting_of flags) (branch_of (decode branch))
