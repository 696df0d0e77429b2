use lib.Dec.{eqb}
use borrow.Author.Rules.{rules}
use borrow.Author.Tests.{tests}
use Rattle.std.proofs.lemmas.Iterator.{YieldsList-from_slice}
use Rattle.std.proofs.lemmas.Iterator.Search.{position_from_yields_List}
use Rattle.cases.proofs.Words.{ends_word, drop_min}
use Rattle.cases.proofs.bytes.end_of.Goals as goal

pub returns : goal.returns
returns c =
    ends_word _ _ _ (drop_min _ _ c.min.ensures) (position_from_yields_List (λ b. eqb b 32) _ _ _ c.position.ensures.ran (YieldsList-from_slice _ c.iter.ensures.rest) (λ x b q k. search (rules, tests)))
    c.unwrap_or.ensures
