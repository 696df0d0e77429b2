use native.Mathlib.Omega.{arith}
use Rattle.definition.specs.Limits.{edge_tray_length}
use Rattle.trays.proofs.Numbers.{zeros_over}
use Rattle.trays.proofs.clear_edges.Goals as goal

pub returns : goal.returns
returns c = (λ r. zeros_over _ edge_tray_length r (c.fill.ensures.after (λ y h. h)), λ z. absurd (omega arith))
