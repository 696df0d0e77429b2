use Rattle.wozhnerk.proofs.Exported.{typed_as}
use Rattle.wozhnerk.proofs.wozhnerk_prove_typed.Goals as goal

pub returns : goal.returns
returns c = typed_as c.prove_typed-answer.ensures c.word.ensures
