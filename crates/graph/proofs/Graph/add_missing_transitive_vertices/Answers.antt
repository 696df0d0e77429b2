use mathlib.Core.Path.{sym, subst}
use Rattle.graph.specs.Drawn.{HasGraph}
use borrow.Author.Rules.{rules}
use mathlib.Core.Logic.{inl}
use Rattle.graph.proofs.Drawn.{transitives, transitives_out, drawn_transitive}
use Rattle.graph.proofs.Graph.add_missing_transitive_vertices.Goals as goal

pub returns-clause-added : goal.returns-clause-added
returns-clause-added c = λ g d. rw c.add_missing.ensures.worlds (drawn_transitive d (c.add_missing.ensures.edges g (transitives g) d (λ stood vertex r e p. let h = subst (HasGraph g) (sym e) d in search rules) (λ u w h. transitives_out d u w (inl h))))
