use Prim.Native.Nat.{ℕ, ◌/◌, ◌%◌, ◌*◌, ◌<◌}
use mathlib.Core.Path.{◌≡◌, refl}
use mathlib.Core.Bool.{Bool, not}
use native.Mathlib.Omega.{arith}
use lib.Dec.{eqb}
use Rattle.std.specs.Int.Bits.{bit_and}
use Rattle.std.proofs.lemmas.Nat.Bits.{and_pow}
use Rattle.definition.specs.Setting.{setting_of}
use Rattle.setting.specs.Asked.{asked}
use Rattle.setting.specs.declared.Setting.{Setting}
use Rattle.setting.proofs.SettingFromU8.from.Goals as goal

-- a flag is set where its bit is 1
flag_is : (n value : ℕ) → 0 < value → bit_and n value ≡ n / value % 2 * value → not (eqb (bit_and n value) 0) ≡ eqb (n / value % 2) 1
flag_is n value h e = rw e (go (n / value % 2) (omega arith))
  where
    go : (b : ℕ) → b < 2 → not (eqb (b * value) 0) ≡ eqb b 1
    go b l = grind arith

asked_is : {p q r s : Bool} {x : Setting} → x.is_reflexive ≡ p → x.is_symmetric ≡ q → x.is_transitive ≡ r → x.skip ≡ s → asked x ≡ record { reflexive = p; symmetric = q; transitive = r; skip = s }
unfolding asked
asked_is e f g h = rw (e, f, g, h) refl

pub returns : goal.returns
unfolding setting_of
returns c =
    let n = c.args.flags in
    asked_is (flag_is n 1 (omega arith) (and_pow n 0)) (flag_is n 2 (omega arith) (and_pow n 1)) (flag_is n 4 (omega arith) (and_pow n 2)) (flag_is n 8 (omega arith) (and_pow n 3))
