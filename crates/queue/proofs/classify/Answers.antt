use mathlib.Core.List.{◌++◌}
use native.Mathlib.Omega.{arith}
use Rattle.arrays.proofs.Tabled.{tabled_count}
use Rattle.definition.specs.Queue as D
use Rattle.queue.proofs.Taking.{classing_end}
use Rattle.queue.proofs.classify.Goals as goal

pub returns : goal.returns
returns c = λ F rs ns q more p b e l g k.
    classing_end (D.get_node_priority F rs ns) (q ++ more) _ (omega (arith, tabled_count l g, c.loop-i-test.false)) (c.loop-i.invariant F rs ns q more p b e l g k)
