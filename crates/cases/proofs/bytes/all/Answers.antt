use borrow.Author.Rules.{rules}
use borrow.Author.Tests.{tests}
use Rattle.cases.specs.Bytes.{filled}
use Rattle.cases.proofs.Ranges.{all_between}
use Rattle.cases.proofs.bytes.all.Goals as goal

pub returns : goal.returns
unfolding filled
returns c = all_between c.all.ensures.ran (λ i v q k. search (rules, tests))
