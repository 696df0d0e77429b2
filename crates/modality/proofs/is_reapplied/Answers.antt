use mathlib.Core.Path.{◌∙◌}
use Rattle.modality.proofs.Lists.{or_first, or_second, and_first, and_second}
use Rattle.modality.proofs.Under.{none_above, one_above}
use Rattle.modality.proofs.is_reapplied.Goals as goal
use Rattle.modality.proofs.is_reapplied.Goals.{then-is_placed, else-is_placed}

pub returns-then-path_goes_through : goal.returns-then-path_goes_through
returns-then-path_goes_through c = λ t k n r h e f d.
    or_first (c.path_goes_through.ensures t d) _ c.if-path_goes_through.true
    ∙ one_above t r k n h e f
    (elim c.if-is_placed.branch [ then-is_placed w ↦ w.value-is ∙ and_second (c.is_placed.ensures t d) w.if-is_placed.true (w.is_placed-then-is_placed.ensures t d) | else-is_placed w ↦ w.value-is ∙ and_first (c.is_placed.ensures t d) _ w.if-is_placed.false ])
    c.if-is_placed-2.true

pub returns-else-path_goes_through : goal.returns-else-path_goes_through
returns-else-path_goes_through c = λ t k n r h e f d.
    or_second (c.path_goes_through.ensures t d) c.if-path_goes_through.false (c.path_goes_through-else-path_goes_through.ensures t d)
    ∙ one_above t r k n h e f
    (elim c.if-is_placed.branch [ then-is_placed w ↦ w.value-is ∙ and_second (c.is_placed.ensures t d) w.if-is_placed.true (w.is_placed-then-is_placed.ensures t d) | else-is_placed w ↦ w.value-is ∙ and_first (c.is_placed.ensures t d) _ w.if-is_placed.false ])
    c.if-is_placed-2.true

pub returns-else-is_placed-2 : goal.returns-else-is_placed-2
returns-else-is_placed-2 c = λ t k n r h e f d.
    none_above t r k n h e f
    (elim c.if-is_placed.branch [ then-is_placed w ↦ w.value-is ∙ and_second (c.is_placed.ensures t d) w.if-is_placed.true (w.is_placed-then-is_placed.ensures t d) | else-is_placed w ↦ w.value-is ∙ and_first (c.is_placed.ensures t d) _ w.if-is_placed.false ])
    c.if-is_placed-2.false
