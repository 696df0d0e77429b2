use Rattle.proof.specs.StateHeld.{kept}
use Rattle.proof.proofs.State.begin.Goals as goal

pub returns-clause-checked : goal.returns-clause-checked
returns-clause-checked c = λ s n new l. c.check.ensures.checked s n (λ _ _. new) (kept l)
