use mathlib.Core.Path.{◌≡◌, ◌∙◌}
use lib.ListN.{get_or}
use native.Mathlib.Omega.{arith}
use borrow.Author.Rules.{rules}
use Rattle.arrays.proofs.Tabled.{tabled_get}
use Rattle.arrays.proofs.Table.get_or.Goals as goal

pub returns : goal.returns
returns g c =
    let e : c.unwrap_or.result ≡ get_or c.args.self.now.entries c.args.k c.args.blank = search rules in
    (λ l p h. e ∙ tabled_get p h _, λ h. e, λ h. absurd (omega (arith, c.if-k.false)))
