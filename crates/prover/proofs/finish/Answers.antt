use native.Mathlib.Omega.{arith}
use Rattle.formula.proofs.Recorded.{recorded_fits}
use Rattle.prover.specs.Said.{said}
use Rattle.prover.proofs.Ending.{kept_laid, laid_ended, ends_full, ends_laid}
use Rattle.prover.proofs.finish.Goals as goal

pub returns-then-tree-gt-MOST_IDENTIFIERS : goal.returns-then-tree-gt-MOST_IDENTIFIERS
unfolding said
returns-then-tree-gt-MOST_IDENTIFIERS c = λ F s k e z.
    rw (c.at.ensures.0, c.at.ensures.1) (ends_full _ k c.if-tree-gt-MOST_IDENTIFIERS.true (c.clear.ensures.0 z.nodes) (c.clear-then-tree-gt-MOST_IDENTIFIERS.ensures.0 z.formulas) (c.clear_edges.ensures.0 z.edges))

pub returns : goal.returns
unfolding said
returns c = λ F s k e z.
    let l = kept_laid k c.if-tree-gt-MOST_IDENTIFIERS.false in
    let h = e (laid_ended l) in
    ends_laid _ l h
    (c.write_nodes.ensures.0 s.nodes l.count (record { fits = omega (arith, l.count, c.if-tree-gt-MOST_IDENTIFIERS.false); laid = l.nodes }) h.worlds z.nodes)
    (c.write_formulas.ensures.0 s.formulas l.formulas (recorded_fits l.formulas h.formulas) h.marks z.formulas)
    (c.write_edges.ensures.0 s.graph l.graph h.rows h.columns z.edges)
    (c.is_late.ensures _ _ l) c.narrow.ensures c.narrow-2.ensures c.narrow-3.ensures c.narrow-4.ensures
