use mathlib.Core.Path.{◌∙◌, ap}
use mathlib.Core.List.{List, []}
use mathlib.Core.Logic.{inl}
use Prim.Native.Nat.{ℕ}
use native.Mathlib.Omega.{arith}
use Rattle.definition.specs.Trays.{over}
use Rattle.slices.proofs.Writing.{written_none, padded_none}
use Rattle.trays.proofs.clear.Goals as goal

pub returns : goal.returns
returns c = (λ h. c.put_zeros.ensures.0 _ [] (written_none _) (omega arith) h ∙ ap (λ (l : List ℕ). over l c.args.tray.now) (padded_none _), λ h. c.put_zeros.ensures.1 (inl h))
