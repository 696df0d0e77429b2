use borrow.Author.Rules.{rules}
use borrow.Author.Tests.{tests}
use Rattle.cases.specs.Lent.{edges_agree}
use Rattle.cases.proofs.Ranges.{all_between}
use Rattle.cases.proofs.lent.edges_agree.Goals as goal

pub returns : goal.returns
unfolding edges_agree
returns c = all_between c.all.ensures.ran (λ i v q k. search (rules, tests))
