use borrow.Author.Rules.{rules}
use mathlib.Core.Path.{refl, ◌∙◌}
use native.Mathlib.Omega.{arith}
use Rattle.definition.specs.Graph.{edge}
use Rattle.graph.proofs.Scan.{scan_start, scan_next, scan_end}
use Rattle.graph.proofs.Graph.add_missing.Goals as goal
use Rattle.graph.proofs.Graph.add_missing.Goals.{then-is_missing, else-is_missing}

pub loop-n-init : goal.loop-n-init
loop-n-init g c = (refl, λ h missing d test. d.cells ∙ scan_start (edge h) _)

pub loop-n-preserved : goal.loop-n-preserved
loop-n-preserved g c = (
  elim c.if-is_missing.branch [ then-is_missing w ↦ rw w.self-is (w.add_vertex.ensures.1 ∙ c.loop-n.invariant.0) | else-is_missing w ↦ rw w.self-is c.loop-n.invariant.0 ],
  λ h missing d test. scan_next (edge h) missing _ _ _ _ _ _ (c.vertex_at-vertex.ensures.0 (omega arith)) (test _ _ _ (search rules) c.is_missing.ensures) (c.loop-n.invariant.1 h missing d test)
      (λ e q. elim c.if-is_missing.branch [ then-is_missing w ↦ rw (w.self-is, w.if-is_missing.true) (w.add_vertex.ensures.0 e q) | else-is_missing w ↦ rw (w.self-is, w.if-is_missing.false) q ]),
)

pub returns-clause-edges : goal.returns-clause-edges
returns-clause-edges g c = λ h missing d test out. c.loop-n.invariant.1 h missing d test ∙ scan_end (edge h) missing _ _ (omega arith) out
