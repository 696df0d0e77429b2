use mathlib.Core.Path.{◌∙◌, sym}
use native.Mathlib.Omega.{arith}
use Rattle.proof.proofs.Going.{going_stops, going_next, going_ends}
use Rattle.proof.proofs.State.prove.Goals as goal

pub returns-then-stops : goal.returns-then-stops
returns-then-stops c = λ s r h.
    let g = c.loop.invariant s r h in
    going_stops g (c.stops.ensures _ g.now g.kept) c.if-stops.true

pub loop-preserved : goal.loop-preserved
loop-preserved c = λ s r h.
    let g = c.loop.invariant s r h in
    let e = sym (c.stops.ensures _ g.now g.kept) ∙ c.if-stops.false in
    going_next g (omega (arith, c.loop-test.true)) e (c.step.ensures g.now g.reached g.kept)

pub returns : goal.returns
returns c = λ s r h. going_ends (c.loop.invariant s r h) (omega (arith, c.loop-test.false))
