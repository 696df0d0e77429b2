use borrow.Author.Rules.{rules}
use borrow.Author.Tests.{tests}
use Rattle.cases.specs.Bytes.{begins_with}
use Rattle.cases.proofs.Ranges.{all_between}
use Rattle.cases.proofs.bytes.begins.Goals as goal

pub returns : goal.returns
unfolding begins_with
returns c = all_between c.all.ensures.ran (λ i v q k. search (rules, tests))
