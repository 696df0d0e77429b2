use borrow.Author.Rules.{rules}
use mathlib.Core.List.{[]}
use Rattle.tree.proofs.Paths.{closes, takers_none, takers_shut, takers_walked}
use Rattle.tree.proofs.ProofTree.takers.Goals as goal

pub returns-then-not-is_placed : goal.returns-then-not-is_placed
returns-then-not-is_placed c = λ ns r e z p. takers_none ns r _ (c.is_placed.ensures ns z) c.if-not-is_placed.true p

pub returns-then-path_is_contradictory : goal.returns-then-path_is_contradictory
returns-then-path_is_contradictory c = λ ns r e z p. takers_shut ns r _ (c.is_placed.ensures ns z) c.if-not-is_placed.false (c.path_is_contradictory.ensures ns e z) c.if-path_is_contradictory.true p

pub returns : goal.returns
returns c = λ ns r e z p. takers_walked ns r _ (c.is_placed.ensures ns z) c.if-not-is_placed.false (c.path_is_contradictory.ensures ns e z) c.if-path_is_contradictory.false _ e (c.leaves_outside.ensures ns [] (closes ns) z (λ stood y b s q. search rules) p)
