use native.Mathlib.Omega.{arith}
use borrow.Author.Rules.{rules}
use Rattle.bits.proofs.Worlds.{worlds_none, worlds_first, worlds_fewer}
use Rattle.bits.proofs.WorldSetIterIterator.next.Goals as goal

pub returns-then-word-eq0-clause-steps : goal.returns-then-word-eq0-clause-steps
returns-then-word-eq0-clause-steps c = rw c.if-word-eq0.true (worlds_none, worlds_none)

pub returns-clause-steps : goal.returns-clause-steps
returns-clause-steps c = worlds_first _ (omega (arith, c.if-word-eq0.false)) (search rules)

pub returns-clause-goes : goal.returns-clause-goes
returns-clause-goes c = record { on = λ _. (tt, tt, worlds_fewer _ (omega (arith, c.if-word-eq0.false)) (search rules)); keeps = tt; rests = λ _. tt }
