use Rattle.tree.proofs.Chains.{chain_up, chain_down, inside}
use Rattle.tree.proofs.Chain.at.Goals as goal

pub returns-then-self : goal.returns-then-self
returns-then-self c =
    let a = c.args in
    (λ b h. chain_up a.self a.k c.if-self.true h, inside a.self a.k c.if-n-k.false c.if-s-n-gt-MOST_IDENTIFIERS.false)

pub returns : goal.returns
returns c =
    let a = c.args in
    (λ b h. chain_down a.self a.k c.if-self.false h, inside a.self a.k c.if-n-k.false c.if-s-n-gt-MOST_IDENTIFIERS.false)
