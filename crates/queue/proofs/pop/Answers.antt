use native.Mathlib.Omega.{arith}
use Rattle.definition.specs.Queue as D
use Rattle.queue.proofs.Taking.{as_many, pop_none, pop_some}
use Rattle.queue.proofs.pop.Goals as goal

pub returns-then-waiting-at : goal.returns-then-waiting-at
returns-then-waiting-at c = λ F rs ns q l k g.
    let f = D.get_node_priority F rs ns in
    let m = as_many f q c.args.waiting.now c.args.classes.now l k g in
    pop_none f q _ _ l k g _ _ (c.first_urgent-at.ensures F rs ns q k (omega (arith, m, g))) c.if-waiting-at.true

pub returns : goal.returns
returns c = λ F rs ns q l k g.
    let f = D.get_node_priority F rs ns in
    let m = as_many f q c.args.waiting.now c.args.classes.now l k g in
    let s = c.if-waiting-at.false in
    pop_some f q c.args.waiting.now c.args.classes.now l k g _ _ (c.first_urgent-at.ensures F rs ns q k (omega (arith, m, g))) _ c.remove.new.self c.remove-2.new.self s (c.nth.ensures.0 q l g) (c.remove.ensures.0 q l g s) (c.remove-2.ensures.0 _ k (omega (arith, m, g)) (omega (arith, m, s)))
