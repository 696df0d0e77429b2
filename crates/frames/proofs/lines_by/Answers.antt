use Rattle.std.proofs.Common.{arith, ◌∙◌, ap, ℕ}
use Rattle.frames.specs.Lines.{lines_below}
use Rattle.frames.proofs.lines_by.Goals as goal

pub returns : goal.returns
returns g c = λ answers h. c.loop-flags.invariant.1 answers h ∙ ap (λ (n : ℕ). lines_below n answers) (omega (arith, c.loop-flags-test.false, c.loop-flags.auto.flags-end))
