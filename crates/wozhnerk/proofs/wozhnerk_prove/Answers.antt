use Rattle.wozhnerk.proofs.Exported.{contract_as}
use Rattle.wozhnerk.proofs.wozhnerk_prove.Goals as goal

pub returns : goal.returns
returns c = contract_as c.prove.ensures c.word.ensures
