use Rattle.subtree.proofs.Rows.{drawn_none, drawn_push}
use Rattle.subtree.specs.Items.{no_chain}
use Rattle.subtree.proofs.Items.push.Goals as goal

pub returns-then-c-eq0 : goal.returns-then-c-eq0
returns-then-c-eq0 c = λ rs lo hi p s. drawn_none _ s p c.if-c-eq0.true

pub returns : goal.returns
returns c = λ rs lo hi p s. drawn_push _ s p c.if-c-eq0.false (c.push.ensures no_chain)
