use Rattle.branch.proofs.Begun.{beginning_start, beginning_marked, beginning_unmarked, beginning_end}
use Rattle.branch.proofs.branch_nodes.Goals as goal
use Rattle.branch.proofs.branch_nodes.Goals.{then-marked, else-marked}

pub loop-i-init : goal.loop-i-init
loop-i-init c = λ rs p few h. beginning_start rs h

pub loop-i-preserved : goal.loop-i-preserved
loop-i-preserved c = λ rs p few h.
    let before = c.loop-i.invariant rs p few h in
    let mark = c.mark_at-marked.ensures rs p few in
    elim c.if-marked.branch [
      | then-marked w ↦ rw (w.tree-is, w.made-is) (beginning_marked rs p few _ before _ c.loop-i-test.true mark w.if-marked.true w.extend-made.ensures)
      | else-marked w ↦ rw (w.tree-is, w.made-is) (beginning_unmarked rs p few _ before _ c.loop-i-test.true mark w.if-marked.false)
    ]

pub returns : goal.returns
returns c = λ rs p few h. beginning_end rs p few _ (c.loop-i.invariant rs p few h) c.loop-i-test.false
