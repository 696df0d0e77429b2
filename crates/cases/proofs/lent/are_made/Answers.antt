use borrow.Author.Rules.{rules}
use borrow.Author.Tests.{tests}
use Rattle.cases.specs.Lent.{are_made}
use Rattle.cases.proofs.Ranges.{all_between}
use Rattle.cases.proofs.lent.are_made.Goals as goal

pub returns : goal.returns
unfolding are_made
returns c = all_between c.all.ensures.ran (λ i v q k. search (rules, tests))
