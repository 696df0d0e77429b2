use borrow.Author.Rules.{rules}
use borrow.Author.Tests.{tests}
use Rattle.cases.specs.Lent.{are_marked}
use Rattle.cases.proofs.Ranges.{all_between}
use Rattle.cases.proofs.lent.are_marked.Goals as goal

pub returns : goal.returns
unfolding are_marked
returns c = all_between c.all.ensures.ran (λ i v q k. search (rules, tests))
