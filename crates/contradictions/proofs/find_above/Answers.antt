use Rattle.contradictions.proofs.Search.{seeking_start, seeking_none, seeking_next, seeking_end}
use Rattle.contradictions.proofs.find_above.Goals as goal
use Rattle.contradictions.proofs.find_above.Goals.{then-are_nodes_contradictory, else-are_nodes_contradictory}

pub loop-init : goal.loop-init
loop-init c = λ rs ns s p b e z. (c.world_of-world.ensures ns z, seeking_start rs ns _ _ _ e z.fits (c.parent_of-cur.ensures ns z))

pub returns-then-is_none : goal.returns-then-is_none
returns-then-is_none c = λ rs ns s p b e z.
    seeking_none rs ns _ (c.loop.invariant rs ns s p b e z).1 c.is_none.ensures c.if-is_none.true

pub loop-preserved : goal.loop-preserved
loop-preserved c = λ rs ns s p b e z.
    let inv = c.loop.invariant rs ns s p b e z in
    let hit = c.are_nodes_contradictory.ensures rs ns _ s inv.0 p b z in (
      inv.0,
      elim c.if-are_nodes_contradictory.branch [
        | then-are_nodes_contradictory w ↦ seeking_next rs ns _ inv.1 _ c.loop-test.true c.is_none.ensures c.if-is_none.false hit (rw (w.last-is, w.if-are_nodes_contradictory.true)) (c.parent_of-cur-in-loop.ensures ns z)
        | else-are_nodes_contradictory w ↦ seeking_next rs ns _ inv.1 _ c.loop-test.true c.is_none.ensures c.if-is_none.false hit (rw (w.last-is, w.if-are_nodes_contradictory.false)) (c.parent_of-cur-in-loop.ensures ns z)
      ],
    )

pub returns : goal.returns
returns c = λ rs ns s p b e z. seeking_end rs ns _ (c.loop.invariant rs ns s p b e z).1 c.loop-test.false
