use native.Mathlib.Omega.{arith}
use Rattle.tree.proofs.Paths.{climb_none, climb_end}
use Rattle.modality.specs.Forking.{fork_of}
use Rattle.modality.proofs.Worlds.{gathered, gather_start, gather_next}
use Rattle.modality.proofs.worlds_on.Goals as goal

pub loop-init : goal.loop-init
loop-init c = λ t d v low. gather_start t _ _ _ v d.count

pub returns-then-is_none : goal.returns-then-is_none
returns-then-is_none c = λ t d v low. climb_none t (gathered t (fork_of c.args.forking) v _) _ _ _ (c.loop.invariant t d v low) c.is_none.ensures c.if-is_none.true

pub loop-preserved : goal.loop-preserved
loop-preserved c = λ t d v low. gather_next t _ v _ _ _ _ (c.loop.invariant t d v low) (omega arith) c.is_none.ensures c.if-is_none.false _ _ (c.parent_of-cur.ensures t d) (c.with_worlds-worlds.ensures t d v low)

pub returns : goal.returns
returns c = λ t d v low. climb_end t (gathered t (fork_of c.args.forking) v _) _ _ _ (c.loop.invariant t d v low) (omega arith)
