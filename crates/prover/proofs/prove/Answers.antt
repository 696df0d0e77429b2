use Rattle.std.proofs.lemmas.Result.{err_from_is_err_and}
use Rattle.prover.specs.Said.{said}
use Rattle.prover.proofs.Whole.{contract_refused}
use Rattle.prover.proofs.prove.Goals as goal

pub returns-in_err-check : goal.returns-in_err-check
unfolding said
returns-in_err-check c =
    let p = err_from_is_err_and c.from_residual.result c.from_residual.ensures.1 in
    rw (p.1, p.2) (contract_refused _ _ _ _ _ c.in_err-check.ensures)
