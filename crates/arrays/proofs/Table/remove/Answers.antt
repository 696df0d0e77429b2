use mathlib.Core.Logic.{⊎_elim}
use native.Mathlib.Omega.{arith}
use Rattle.arrays.proofs.Gap.{gap_closed}
use Rattle.arrays.proofs.Table.remove.Goals as goal

pub returns : goal.returns
returns g c =
    (λ l p h b. gap_closed p h _ b _ c.copy_within.ensures.after, ⊎_elim (λ z. absurd (omega (arith, c.if-self-i.false))) (λ z. absurd (omega (arith, c.if-self.false))))
