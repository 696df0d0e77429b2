use Rattle.setting.specs.Asked.{asked}
use Rattle.definition.specs.Run.{State}
use Rattle.definition.specs.Reached.{Reached}
use Rattle.proof.specs.StateHeld.{StateHeld}
use Rattle.proof.proofs.Going.{Going}
use Rattle.proof.proofs.State.prove.Given as goal

-- After so many turns the state is that of the run after as many steps, and what is left of the run gives what the whole run gives.
abbrev pub invariant-loop : goal.invariant-loop
invariant-loop l = (s : State) → Reached (asked l.setting) s → StateHeld (asked l.setting) s l.initial.self → Going (asked l.setting) s l.counter l.self
