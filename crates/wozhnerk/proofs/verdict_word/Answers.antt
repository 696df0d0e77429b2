use borrow.Author.Rules.{rules}
use Rattle.prover.specs.Said.{said}
use Rattle.wozhnerk.proofs.Words.{read_verdict}
use Rattle.wozhnerk.proofs.verdict_word.Goals as goal

pub returns : goal.returns
unfolding said
returns c = λ h.
    rw (c.from-identifiers.ensures, c.from-formulas.ensures, c.from-steps.ensures, c.from-worlds.ensures, c.from-proved.ensures, c.from-late.ensures)
    (read_verdict _ _ _ _ _ _ (search rules) (search rules) (search rules) h)
