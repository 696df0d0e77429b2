use Rattle.cases.proofs.Words.{summing_letter, summing_large}
use Rattle.cases.proofs.bytes.decimal.Goals as goal
use Rattle.cases.proofs.bytes.decimal.Goals.{then-digit-gt9-via-then-digit-gt9, then-digit-gt9-via-else-digit-gt9+then-n-gt99999}

pub returns-then-digit-gt9 : goal.returns-then-digit-gt9
returns-then-digit-gt9 c =
    elim c.then-digit-gt9.branch [
      | then-digit-gt9-via-then-digit-gt9 w ↦ summing_letter c.loop-b.invariant c.loop-b-test.true c.hex_digit.ensures.value c.in_ok-digit.was w.if-digit-gt9.true
      | then-digit-gt9-via-else-digit-gt9+then-n-gt99999 w ↦
          summing_large c.loop-b.invariant c.loop-b-test.true c.hex_digit.ensures.value c.in_ok-digit.was w.if-digit-gt9.false w.if-n-gt99999.true
    ]
