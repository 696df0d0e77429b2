use mathlib.Core.Path.{refl}
use Rattle.definition.specs.Lists.{any}
use Rattle.tree.proofs.Paths.{node_in, parent_in, climb_start, climb_out_none, climb_out, climb_hit, climb_miss, climb_end}
use Rattle.modality.proofs.EarlierTree.any_on_path.Goals as goal
use Rattle.modality.proofs.EarlierTree.any_on_path.Goals.{then-not-is_none, else-not-is_none}

pub loop-init : goal.loop-init
loop-init g c = λ t p d test. climb_start t (any p) _ _ d.count

pub returns-then-self-cur : goal.returns-then-self-cur
returns-then-self-cur g c = λ t p d test. elim c.if-not-is_none.branch [
  | then-not-is_none w ↦ rw w.result-is (climb_out t p _ _ _ (c.loop.invariant t p d test) d.count c.loop-test.true c.if-self-cur.true c.is_none.ensures w.if-not-is_none.true (test _ _ w.test.ensures))
  | else-not-is_none w ↦ rw w.result-is (climb_out_none t p _ _ _ (c.loop.invariant t p d test) d.count c.loop-test.true c.if-self-cur.true c.is_none.ensures w.if-not-is_none.false)
]

pub returns-then-test : goal.returns-then-test
returns-then-test g c = λ t p d test. climb_hit t p _ _ _ (c.loop.invariant t p d test) c.loop-test.true (node_in d _ c.if-self-cur.false) refl (test _ _ c.test-in-loop.ensures) c.if-test.true

pub loop-preserved : goal.loop-preserved
loop-preserved g c = λ t p d test. climb_miss t p _ _ _ (c.loop.invariant t p d test) c.loop-test.true (node_in d _ c.if-self-cur.false) refl (test _ _ c.test-in-loop.ensures) c.if-test.false _ (parent_in d _ _ c.if-self-cur.false c.parent_of-cur.ensures)

pub returns : goal.returns
returns g c = λ t p d test. climb_end t (any p) _ _ _ (c.loop.invariant t p d test) c.loop-test.false
