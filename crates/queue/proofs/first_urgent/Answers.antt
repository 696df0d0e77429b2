use borrow.Author.Rules.{rules}
use native.Mathlib.Omega.{arith}
use Rattle.queue.proofs.Taking.{search_begin, search_next, search_end, search_hit, search_miss}
use Rattle.queue.proofs.first_urgent.Goals as goal

pub loop-i-init : goal.loop-i-init
loop-i-init c = λ F rs ns q l g. search_begin F rs ns q l g _ (omega arith) (c.classes.invariant.1 F rs ns q l g)

pub loop-i-preserved : goal.loop-i-preserved
loop-i-preserved c = λ F rs ns q l g. search_miss F rs ns q l g _ _ _ c.loop-i-test.true (c.loop-i.invariant F rs ns q l g) (c.nth.ensures.0 _ l g) c.if-nth-class.false

pub classes-preserved : goal.classes-preserved
classes-preserved c = (search rules, λ F rs ns q l g. search_next F rs ns q l g _ _ c.loop-i-test.false (c.loop-i.invariant F rs ns q l g))

pub returns-then-class-eq-CLASS_COUNT : goal.returns-then-class-eq-CLASS_COUNT
returns-then-class-eq-CLASS_COUNT c = λ F rs ns q l g. search_end F rs ns q l g _ c.if-class-eq-CLASS_COUNT.true (c.classes.invariant.1 F rs ns q l g)

pub returns-then-nth-class : goal.returns-then-nth-class
returns-then-nth-class c = λ F rs ns q l g. search_hit F rs ns q l g _ _ _ c.loop-i-test.true (c.loop-i.invariant F rs ns q l g) (c.nth.ensures.0 _ l g) c.if-nth-class.true
