use mathlib.Core.Path.{sym}
use lib.Seq.{length-take-le}
use native.Mathlib.Omega.{arith}
use Rattle.std.proofs.lemmas.Result.{err_from_is_err_and}
use Rattle.typed.proofs.Whole.{records_fit, refused, read_and_run}
use Rattle.typed.proofs.prove_typed.Goals as goal

pub returns-in_err-count : goal.returns-in_err-count
returns-in_err-count c =
    let p = err_from_is_err_and c.from_residual.result c.from_residual.ensures.1 in
    rw (p.1, p.2) (refused _ _ _ _ c.in_err-count.ensures)

pub slice_bounds-prove-end : goal.slice_bounds-prove-end
slice_bounds-prove-end c = omega (arith, records_fit c.in_ok-count.ensures.2, c.from-end.ensures)

pub slice_bounds-prove-end-2 : goal.slice_bounds-prove-end-2
slice_bounds-prove-end-2 c = sym (length-take-le _ _ (omega (arith, records_fit c.in_ok-count.ensures.2, c.from-end.ensures)))

pub returns : goal.returns
returns c = read_and_run _ _ _ _ _ c.in_ok-count.ensures (rw c.from-end.ensures at c.prove.ensures)
