use borrow.Author.Rules.{rules}
use Rattle.graph.proofs.Drawn.{reflexives, reflexives_out, drawn_reflexive}
use Rattle.graph.proofs.Graph.add_missing_reflexive_vertices.Goals as goal

pub returns-clause-added : goal.returns-clause-added
returns-clause-added c = λ g d. rw c.add_missing.ensures.worlds (drawn_reflexive d (c.add_missing.ensures.edges g (reflexives c.args.self.now.worlds) d (λ stood vertex r e p. search rules) (reflexives_out _)))
