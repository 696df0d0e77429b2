use mathlib.Core.Path.{sym, ap, ◌∙◌}
use mathlib.Core.Logic.{inl, inr}
use Rattle.definition.specs.Run.{apply_rule}
use Rattle.rules.specs.declared.Consequence.{Consequence}
use Rattle.rules.specs.Consequences.{consequence_of}
use Rattle.proof.proofs.Applying.{Plain, rule_possible, rule_necessary, after_as, after_here}
use Rattle.setting.specs.Asked.{asked}
use Rattle.proof.proofs.apply.Goals as goal

pub returns-in-AsPossible : goal.returns-in-AsPossible
returns-in-AsPossible c = λ s recs q b. let F = asked c.args.setting in after_as s q (rule_possible F s _ recs _ ∙ ap (λ (r : Consequence). apply_rule F s c.args.x.0 recs (consequence_of r)) (sym c.in-AsPossible.is)) (c.apply_possibility.ensures.after s recs q b)

pub returns-in-AsNecessary : goal.returns-in-AsNecessary
returns-in-AsNecessary c = λ s recs q b. let F = asked c.args.setting in after_as s q (rule_necessary F s _ recs _ ∙ ap (λ (r : Consequence). apply_rule F s c.args.x.0 recs (consequence_of r)) (sym c.in-AsNecessary.is)) (c.apply_necessity.ensures s recs q b)

pub returns-in-Nothing : goal.returns-in-Nothing
returns-in-Nothing c = λ s recs q b. after_here _ s _ recs q _ plain (c.append_here.ensures s recs q b)
  where
    plain : Plain (consequence_of c.args.rule)
    plain = elim c.in-Nothing.is [
      | inl e ↦ rw e tt
      | inr k ↦ elim k [
        | inl e ↦ rw e.1 tt
        | inr k ↦ elim k [
          | inl e ↦ rw e.2 tt
          | inr k ↦ elim k [
            | inl e ↦ rw e.2 tt
            | inr e ↦ rw e.4 tt
          ]
        ]
      ]
    ]
