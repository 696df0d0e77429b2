use Rattle.modality.proofs.Worlds.{forked_here, forked_elsewhere, forked_nowhere, brings_own, brings_forked}
use Rattle.modality.proofs.with_worlds.Goals as goal

pub returns-in-Some : goal.returns-in-Some
returns-in-Some c = rw c.in-Some.is (λ t d. brings_forked t _ _ _ _ (c.world_of.ensures t d) c.with-here.ensures _ (λ v. forked_here c.in-Some.fork _ (rw c.in-Some.fork-is at c.eq.ensures) v c.if-eq.true) _ (rw c.in-Some.fork-is at c.with.ensures))

pub returns-in_default : goal.returns-in_default
returns-in_default c = rw c.in-Some.is (λ t d. brings_own t _ _ _ _ (c.world_of.ensures t d) c.with-here.ensures (λ v. forked_elsewhere c.in-Some.fork _ (rw c.in-Some.fork-is at c.eq.ensures) v c.if-eq.false))

pub returns-in_default-2 : goal.returns-in_default-2
returns-in_default-2 c = rw c.in_default.is (λ t d. brings_own t _ _ _ _ (c.world_of.ensures t d) c.with-here.ensures (forked_nowhere _))
