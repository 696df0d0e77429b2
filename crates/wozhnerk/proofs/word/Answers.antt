use Rattle.prover.specs.Said.{said}
use Rattle.wozhnerk.specs.Word.{worlds_of}
use Rattle.wozhnerk.proofs.word.Goals as goal

pub returns-in-Ok : goal.returns-in-Ok
unfolding said worlds_of
returns-in-Ok c = λ h. rw c.in-Ok.is (c.verdict_word.ensures (rw c.in-Ok.is at h))
