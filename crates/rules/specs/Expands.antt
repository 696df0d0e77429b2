-- What a rule by its name makes, and what a function that makes it leaves.
use Rattle.std.specs.Prelude.{ℕ, suc, ◌≤◌, ◌≡◌, List, [], ◌∷◌, ◌++◌}
use Rattle.definition.specs.Limits.{most_formulas}
use Rattle.definition.specs.Records as kind
use Rattle.definition.specs.Records.{Rec, made}
use Rattle.definition.specs.Rules.{Expansion, makes, down, expansion_by, non_expansion}
use Rattle.formula.specs.Recorded.{HasRecords}
use Rattle.formula.specs.declared.Formulas.{Formulas}
use Rattle.rules.specs.declared.Consequence.{Consequence}
use Rattle.rules.specs.declared.LogicRule.{LogicRule}
use Rattle.rules.specs.declared.LogicRule.TheVariants.{Nothing, And, Or, Imply, BiImply, StrictImply, Possible, Necessary, NonNon, NonAnd, NonOr, NonImply, NonBiImply, NonStrictImply, NonPossible, NonNecessary}
use Rattle.rules.specs.Consequences.{consequence_of}

-- the rule of a said formula of a kind with the fields p and q; m is the number of the next record made. No rule but Non's reads an inner record
abbrev pub said_expansion : kind.Kind → ℕ → ℕ → ℕ → Expansion
said_expansion k m p q = expansion_by k m p q (made kind.Unknown 0 0)

-- the rule of Non of a modal kind, by the other modal kind; p is what the denied formula names
abbrev pub modal_expansion : kind.Kind → ℕ → ℕ → Expansion
modal_expansion k m p = makes (made kind.Non p 0 ∷ made k m 0 ∷ []) (down (suc m ∷ []))

-- a rule by its name; p and q are the fields of the formula or, under Non, of the formula that it denies
abbrev pub expansion_of : LogicRule → ℕ → ℕ → ℕ → Expansion
expansion_of Nothing = said_expansion kind.Atomic
expansion_of And = said_expansion kind.And
expansion_of Or = said_expansion kind.Or
expansion_of Imply = said_expansion kind.Imply
expansion_of BiImply = said_expansion kind.BiImply
expansion_of StrictImply = said_expansion kind.StrictImply
expansion_of Possible = said_expansion kind.Possible
expansion_of Necessary = said_expansion kind.Necessary
expansion_of NonNon = non_expansion kind.Non
expansion_of NonAnd = non_expansion kind.And
expansion_of NonOr = non_expansion kind.Or
expansion_of NonImply = non_expansion kind.Imply
expansion_of NonBiImply = non_expansion kind.BiImply
expansion_of NonStrictImply = non_expansion kind.StrictImply
expansion_of NonPossible = non_expansion kind.Possible
expansion_of NonNecessary = non_expansion kind.Necessary

-- the records and those that the rule makes are held; where they fit, the consequence is the rule
pub record Expands (rs : List Rec) (e : Expansion) (r : Consequence) (f : Formulas) : Type 0 where
  pub records : HasRecords (rs ++ e.made) f
  pub rule : f.records.len ≤ most_formulas → consequence_of r ≡ e.rule
