use mathlib.Core.Path.{ap, ◌∙◌}
use Prim.Native.Nat.{◌<◌}
use native.Mathlib.Omega.{arith}
use Rattle.cases.specs.Bytes.{hex_digit}
use Rattle.cases.proofs.Hex.{first_eight, hexing_next}
use Rattle.cases.proofs.bytes.hex_number.Goals as goal

pub loop-b-preserved : goal.loop-b-preserved
loop-b-preserved c =
    let found = c.in_ok-b-items.ensures.lookup.0 in
    let items = first_eight _ _ found.2 found.1 in
    let within : c.loop-b.b-index < 8 = omega (arith, items.0) in
    rw c.from.ensures
    (hexing_next c.loop-b.invariant within (omega (arith, found.1)) (c.hex_digit.ensures.value ∙ ap hex_digit (items.1 _ within)) c.in_ok-hex_digit.was c.in_ok-hex_digit.ensures.bound)
