use mathlib.Core.Path.{sym, subst}
use Rattle.graph.specs.Drawn.{HasGraph}
use borrow.Author.Rules.{rules}
use Rattle.graph.proofs.Drawn.{symmetrics, symmetrics_out, drawn_symmetric}
use Rattle.graph.proofs.Graph.add_missing_symmetric_vertices.Goals as goal

pub returns-clause-added : goal.returns-clause-added
returns-clause-added c = λ g d. rw c.add_missing.ensures.worlds (drawn_symmetric d (c.add_missing.ensures.edges g (symmetrics g) d (λ stood vertex r e p. let h = subst (HasGraph g) (sym e) d in search rules) (symmetrics_out d)))
