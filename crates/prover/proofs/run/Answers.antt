use native.Mathlib.Omega.{arith}
use mathlib.Core.Path.{refl}
use Rattle.definition.proofs.Run.Accepted.{accepted}
use Rattle.prover.proofs.Whole.{runs}
use Rattle.prover.proofs.run.Goals as goal

pub returns : goal.returns
returns c = λ e.
    runs _ _ _ (accepted _ _ _ e) e c.from-setting.ensures
    (λ small some few. c.begin.ensures small some few
    (record { formulas = c.new.ensures; nodes = c.new-2.ensures; graph = c.new-3.ensures; necessities = c.new-4.ensures; waiting = c.new-5.ensures (omega arith); classes = c.new-6.ensures (omega arith); steps = refl; proved = refl }))
    (c.prove.ensures _) (c.finish.ensures _ _)
