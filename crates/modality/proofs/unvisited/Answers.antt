use Prim.Native.Nat.{◌≤◌}
use mathlib.Core.Path.{sym, ◌∙◌}
use mathlib.Core.Logic.{inl}
use native.Mathlib.Omega.{arith}
use Rattle.graph.proofs.Drawn.{drawn_out}
use Rattle.bits.proofs.Worlds.{worlds_none}
use Rattle.modality.proofs.Give.{fresh, unvisited_by, unvisited_none, marks_none, marks_all}
use Rattle.modality.proofs.unvisited.Goals as goal

pub returns-then-graph-from : goal.returns-then-graph-from
returns-then-graph-from c = λ g n e d r. worlds_none ∙ sym (unvisited_none g n _ e (λ v. drawn_out d _ v (inl c.if-graph-from.true)))

pub loop-v-init : goal.loop-v-init
loop-v-init c = λ g n e d r. marks_none (fresh g _ n.visited)

pub returns : goal.returns
returns c = λ g n e d r.
    let none : c.args.graph.now.worlds ≤ c.loop-v.v = omega arith in
    let up : c.loop-v.v ≤ c.args.graph.now.worlds = omega arith in
    let few : c.args.graph.now.worlds ≤ 32 = omega arith in
    marks_all (fresh g _ n.visited) _ _ _ few none up (c.loop-v.invariant g n e d r) ∙ unvisited_by g n _ _ e d.count
