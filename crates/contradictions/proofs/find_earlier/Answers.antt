use Rattle.contradictions.proofs.Search.{no_literal, claims_as}
use Rattle.contradictions.proofs.find_earlier.Goals as goal

pub returns-then-is_no_literal : goal.returns-then-is_no_literal
returns-then-is_no_literal c = λ rs ns p b e z.
    no_literal rs ns _ (claims_as rs (c.formula_of.ensures ns z) (c.claim_of-c.ensures rs p b)) c.is_no_literal.ensures c.if-is_no_literal.true
