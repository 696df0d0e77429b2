-- Which rule a formula has, by kind numbers.
use Rattle.std.specs.Prelude.{ℕ, cond, List, [], ◌∷◌, eqb, get_or}
use Rattle.rules.specs.declared.LogicRule.{LogicRule}
use Rattle.rules.specs.declared.LogicRule.TheVariants.{Nothing, And, Or, Imply, BiImply, StrictImply, Possible, Necessary, NonNon, NonAnd, NonOr, NonImply, NonBiImply, NonStrictImply, NonPossible, NonNecessary}

-- of the kinds 0 to 8, said; and denied
abbrev pub said : List LogicRule
said = Nothing ∷ Nothing ∷ And ∷ Or ∷ Imply ∷ BiImply ∷ StrictImply ∷ Possible ∷ Necessary ∷ []

abbrev pub denied : List LogicRule
denied = Nothing ∷ NonNon ∷ NonAnd ∷ NonOr ∷ NonImply ∷ NonBiImply ∷ NonStrictImply ∷ NonPossible ∷ NonNecessary ∷ []

-- by the outer kind and, under Non, the inner kind
unfoldable pub logic_rule : ℕ → ℕ → LogicRule
logic_rule outer inner = cond (eqb outer 1) (get_or denied inner Nothing) (get_or said outer Nothing)

-- the formula whose fields the rule reads: f or, under Non, what f denies
unfoldable pub ruled : ℕ → ℕ → ℕ → ℕ
ruled outer f inner = cond (eqb outer 1) inner f
