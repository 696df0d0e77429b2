-- The answer in one number, as C and Rust read it.
use Rattle.std.specs.Prelude.{cond, ℕ, ◌/◌, ◌%◌, eqb}
use Rattle.definition.specs.Call.{Answer, refusal, verdict}

-- what the number of the exported function says. A refusal: bit 63 is 1, bits 0 to 15 are the place, 16 to 31 the number.
-- A verdict: bits 0 to 15 are the identifiers, 16 to 31 the formulas, 32 to 47 the steps, 48 to 55 the worlds, bit 56 is proved, bit 57 late
unfoldable pub read : ℕ → Answer
read w =
    cond (eqb (w / 9223372036854775808) 1)
    (refusal (w / 65536 % 65536) (w % 65536))
    (verdict
    (record {
      proved = eqb (w / 72057594037927936 % 2) 1;
      late = eqb (w / 144115188075855872 % 2) 1;
      identifiers = w % 65536;
      formulas = w / 65536 % 65536;
      worlds = w / 281474976710656 % 256;
      steps = w / 4294967296 % 65536;
    }))

-- the worlds of a verdict
unfoldable pub worlds_of : Answer → ℕ
worlds_of (refusal number place) = 0
worlds_of (verdict v) = v.worlds
