use mathlib.Core.Path.{◌∙◌}
use Rattle.contradictions.proofs.Search.{some_pair, searching_start, searching_none, searching_old, searching_hit, searching_next, searching_end}
use Rattle.contradictions.proofs.get_contradictory_node_ids.Goals as goal

pub loop-init : goal.loop-init
loop-init c = λ rs ns p b e z a i l. searching_start rs ns _ _ _ e a i l

pub returns-then-is_none : goal.returns-then-is_none
returns-then-is_none c = λ rs ns p b e z a i l. searching_none (c.loop.invariant rs ns p b e z a i l) c.is_none.ensures c.if-is_none.true

pub returns-then-cur-old : goal.returns-then-cur-old
returns-then-cur-old c = λ rs ns p b e z a i l. searching_old (c.loop.invariant rs ns p b e z a i l) c.if-cur-old.true

pub returns-then-is_some : goal.returns-then-is_some
returns-then-is_some c = λ rs ns p b e z a i l.
    searching_hit (c.loop.invariant rs ns p b e z a i l) c.is_none.ensures c.if-is_none.false _ (c.find_earlier-found.ensures rs ns p b e z) (c.is_some.ensures ∙ some_pair _) c.if-is_some.true

pub loop-preserved : goal.loop-preserved
loop-preserved c = λ rs ns p b e z a i l.
    searching_next (c.loop.invariant rs ns p b e z a i l) c.is_none.ensures c.if-is_none.false _ (c.find_earlier-found.ensures rs ns p b e z) (c.is_some.ensures ∙ some_pair _) _ c.if-is_some.false
    c.if-cur-old.false (c.parent_of-cur.ensures ns z)

pub returns : goal.returns
returns c = λ rs ns p b e z a i l. searching_end (c.loop.invariant rs ns p b e z a i l) c.loop-test.false
