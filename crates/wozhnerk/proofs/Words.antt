-- The answer in one number, and what it says.
use mathlib.Core.Path.{◌≡◌, refl, ap, ◌∙◌}
use mathlib.Core.Bool.{Bool, true, false}
use Prim.Native.Nat.{ℕ, ◌≤◌, ◌<◌, ◌+◌, ◌*◌, ◌/◌, ◌%◌}
use native.Mathlib.Omega.{arith}
use lib.Dec.{eqb}
use Rattle.std.specs.Int.{from_bool}
use Rattle.definition.specs.Call.{refusal, verdict}
use Rattle.wozhnerk.specs.Word.{read}

pub read_refusal : (number place : ℕ) → number < 65536 → place < 65536 → read (place + number * 65536 + 9223372036854775808) ≡ refusal number place
unfolding read
read_refusal n i h k =
    let w = i + n * 65536 + 9223372036854775808 in
    let a : w / 9223372036854775808 ≡ 1 = omega (arith, h, k) in
    let b : w / 65536 % 65536 ≡ n = omega (arith, h, k) in
    let c : w % 65536 ≡ i = omega (arith, h, k) in
    rw (a, b, c) refl

low_16 : (x y : ℕ) → x < 65536 → (x + y * 65536) % 65536 ≡ x
low_16 x y h = omega (arith, h)

low_8 : (x y : ℕ) → x ≤ 255 → (x + y * 256) % 256 ≡ x
low_8 x y h = omega (arith, h)

bit_read : (b : Bool) → eqb (from_bool b) 1 ≡ b
bit_read true = refl
bit_read false = refl

bit_low : (b : Bool) → from_bool b ≤ 1
bit_low true = omega arith
bit_low false = omega arith

module _ (proved late : Bool) (i f s v : ℕ) (hi : i < 65536) (hf : f < 65536) (hs : s < 65536) (hv : v ≤ 255) where
  pub read_verdict : read (i + f * 65536 + s * 4294967296 + v * 281474976710656 + from_bool proved * 72057594037927936 + from_bool late * 144115188075855872) ≡
      verdict (record { proved = proved; late = late; identifiers = i; formulas = f; worlds = v; steps = s })
  unfolding read
  read_verdict =
      let p : ℕ = from_bool proved in
      let l : ℕ = from_bool late in
      let hp : p ≤ 1 = bit_low proved in
      let hl : l ≤ 1 = bit_low late in
      let w = i + f * 65536 + s * 4294967296 + v * 281474976710656 + p * 72057594037927936 + l * 144115188075855872 in
      let a : w / 9223372036854775808 ≡ 0 = omega (arith, hi, hf, hs, hv, hp, hl) in
      let b : w / 72057594037927936 % 2 ≡ p = omega (arith, hi, hf, hs, hv, hp, hl) in
      let c : w / 144115188075855872 % 2 ≡ l = omega (arith, hi, hf, hs, hv, hp, hl) in
      let top : ℕ = v + (p + l * 2) * 256 in
      let high : ℕ = s + top * 65536 in
      let d : w % 65536 ≡ i = ap (λ (n : ℕ). n % 65536) {x = w} {y = i + (f + high * 65536) * 65536} (omega arith) ∙ low_16 i (f + high * 65536) hi in
      let e : w / 65536 % 65536 ≡ f = ap (λ (n : ℕ). n % 65536) {x = w / 65536} {y = f + high * 65536} (omega (arith, hi)) ∙ low_16 f high hf in
      let k : w / 4294967296 % 65536 ≡ s = ap (λ (n : ℕ). n % 65536) {x = w / 4294967296} {y = high} (omega (arith, hi, hf)) ∙ low_16 s top hs in
      let g : w / 281474976710656 % 256 ≡ v = ap (λ (n : ℕ). n % 256) {x = w / 281474976710656} {y = top} (omega (arith, hi, hf, hs)) ∙ low_8 v (p + l * 2) hv in
      rw (a, b, c, d, e, g, k, bit_read proved, bit_read late) refl
