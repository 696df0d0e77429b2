use mathlib.Core.Path.{refl, ◌∙◌}
use native.Mathlib.Omega.{arith}
use Rattle.tree.proofs.Sequence.{id_fits}
use Rattle.contradictions.proofs.Marks.{marking_start, marking_next}
use Rattle.contradictions.proofs.mark_paths.Goals as goal

pub loop-k-init : goal.loop-k-init
loop-k-init c = (omega arith, refl, λ rs ns p b a h o. marking_start rs a)

pub loop-k-preserved : goal.loop-k-preserved
loop-k-preserved c = (
  omega arith,
  omega arith,
  λ rs ns p b a h o.
      marking_next (c.loop-k.invariant.2 rs ns p b a h o) o (omega arith) (c.id_at.ensures ∙ id_fits _ c.if-k-ge-MOST_IDENTIFIERS.false) (λ ms m z. c.mark_path-every.ensures.1 rs ms p b m (omega arith) z) refl,
)
