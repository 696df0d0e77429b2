use mathlib.Core.Path.{◌∙◌}
use Rattle.setting.specs.Asked.{asked}
use Rattle.proof.proofs.Applying.{check_skipped, check_made, or_yes, or_no}
use Rattle.proof.proofs.Going.{kept_as}
use Rattle.proof.proofs.Stepping.{checked_held}
use Rattle.proof.proofs.State.check.Goals as goal

pub returns-then-setting-clause-checked : goal.returns-then-setting-clause-checked
unfolding asked
returns-then-setting-clause-checked c = λ s n l kp. kept_as (check_skipped _ s c.if-setting.true) kp

pub returns-then-self-clause-checked : goal.returns-then-self-clause-checked
unfolding asked
returns-then-self-clause-checked c = λ s n l kp.
    let every = c.check_for_contradictions-every.ensures in
    checked_held _ s kp every.0 (λ h r p. let k = every.1 s.formulas s.nodes r n h (l c.if-setting.false) in check_made _ s c.if-setting.false k.0 (λ _. or_yes s _ p c.if-self.true))

pub returns-clause-checked : goal.returns-clause-checked
unfolding asked
returns-clause-checked c = λ s n l kp.
    let every = c.check_for_contradictions-every.ensures in
    checked_held _ s kp every.0 (λ h r p. let k = every.1 s.formulas s.nodes r n h (l c.if-setting.false) in check_made _ s c.if-setting.false k.0 (λ small. k.1 small ∙ or_no s _ p c.if-self.false))
