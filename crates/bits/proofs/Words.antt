-- Laws of the bits of a word.
use Prim.Native.Nat.{ℕ, zero, suc, ◌+◌, ◌*◌, ◌/◌, ◌%◌, ◌^◌, ◌<◌, min, max}
use mathlib.Core.Path.{◌≡◌, refl, sym, ap, ◌∙◌}
use mathlib.Core.Bool.{Bool, true, false, ◌&&◌, ◌||◌, or_comm}
use native.Mathlib.Nat.{zero-div, one-mul, pow-suc}
use native.Mathlib.Omega.{arith}
use lib.Bits.{bit_and, bit_or, and_step, or_step, and_shr, or_shr}
use lib.Dec.{eqb}
use lib.Pow.{shr-shr, shl_exact}
use borrow.Author.Tests.{eqb-true, eqb-false, eq-eqb, ne_eqb}
use Rattle.bits.specs.Bits.{bit_of}

-- ---- the lowest bit, and those above it
pub bit_suc : (n i : ℕ) → bit_of n (suc i) ≡ bit_of (n / 2) i
unfolding bit_of
bit_suc n i =
    let o : suc i ≡ 1 + i = omega arith in
    ap (λ (z : ℕ). eqb (z % 2) 1) (ap (λ (z : ℕ). n / 2 ^ z) o ∙ sym (shr-shr n 1 i))

pub bit_zero : (n : ℕ) → bit_of n 0 ≡ eqb (n % 2) 1
unfolding bit_of
bit_zero n = let e : n / 1 ≡ n = omega arith in ap (λ (z : ℕ). eqb (z % 2) 1) e

-- no bit of zero is set
pub no_bit : (k : ℕ) → bit_of 0 k ≡ false
unfolding bit_of
no_bit k = rw zero-div

-- ---- the bits of two words
or_digit : (x y : ℕ) → x < 2 → y < 2 → eqb (max x y) 1 ≡ (eqb x 1 || eqb y 1)
or_digit zero zero h k = refl
or_digit zero (suc zero) h k = refl
or_digit zero (suc (suc y)) h k = absurd (omega (arith, k))
or_digit (suc zero) zero h k = refl
or_digit (suc zero) (suc zero) h k = refl
or_digit (suc zero) (suc (suc y)) h k = absurd (omega (arith, k))
or_digit (suc (suc x)) y h k = absurd (omega (arith, h))

and_digit : (x y : ℕ) → x < 2 → y < 2 → eqb (min x y) 1 ≡ (eqb x 1 && eqb y 1)
and_digit zero zero h k = refl
and_digit zero (suc zero) h k = refl
and_digit zero (suc (suc y)) h k = absurd (omega (arith, k))
and_digit (suc zero) zero h k = refl
and_digit (suc zero) (suc zero) h k = refl
and_digit (suc zero) (suc (suc y)) h k = absurd (omega (arith, k))
and_digit (suc (suc x)) y h k = absurd (omega (arith, h))

module _ (a b k : ℕ) where
  abbrev x : ℕ
  x = a / 2 ^ k

  abbrev y : ℕ
  y = b / 2 ^ k

  pub union_bit : bit_of (bit_or a b) k ≡ (bit_of a k || bit_of b k)
  unfolding bit_of
  union_bit =
      let e : bit_or x y % 2 ≡ max (x % 2) (y % 2) = omega (arith, or_step x y) in
      rw (or_shr a b k, e) (or_digit (x % 2) (y % 2) (omega arith) (omega arith))

  pub common_bit : bit_of (bit_and a b) k ≡ (bit_of a k && bit_of b k)
  unfolding bit_of
  common_bit =
      let e : bit_and x y % 2 ≡ min (x % 2) (y % 2) = omega (arith, and_step x y) in
      rw (and_shr a b k, e) (and_digit (x % 2) (y % 2) (omega arith) (omega arith))

-- ---- a power of two has one bit
eqb_suc : (j k : ℕ) → eqb j k ≡ eqb (suc j) (suc k)
eqb_suc j k = go (eqb j k) refl where
  go : (b : Bool) → eqb j k ≡ b → b ≡ eqb (suc j) (suc k)
  go true e = sym (eq-eqb (suc j) (suc k) (ap suc (eqb-true j k e)))
  go false e = sym (ne_eqb (suc j) (suc k) (λ s. eqb-false j k e (omega arith)))

power_bit : (k j : ℕ) → bit_of (2 ^ k) j ≡ eqb j k
power_bit zero zero = bit_zero 1
power_bit zero (suc j) = bit_suc 1 j ∙ no_bit j ∙ sym (ne_eqb (suc j) 0 (λ e. omega arith))
power_bit (suc k) zero =
    let even : 2 ^ suc k % 2 ≡ 0 = omega (arith, pow-suc 2 k) in
    bit_zero (2 ^ suc k) ∙ rw even (sym (ne_eqb 0 (suc k) (λ e. omega arith)))
power_bit (suc k) (suc j) =
    let half : 2 ^ suc k / 2 ≡ 2 ^ k = omega (arith, pow-suc 2 k) in
    bit_suc (2 ^ suc k) j ∙ rw half (power_bit k j ∙ eqb_suc j k)

-- one shifted to bit k, within 32 bits
pub set_bit : (w k j : ℕ) → k < 32 → bit_of (bit_or w (1 * 2 ^ k % 2 ^ 32)) j ≡ (eqb j k || bit_of w j)
set_bit w k j short =
    let e : 1 * 2 ^ k % 2 ^ 32 ≡ 2 ^ k = shl_exact 1 k 32 (omega arith) (omega arith) ∙ one-mul (2 ^ k) in
    rw (e, union_bit w (2 ^ k) j, power_bit k j) (or_comm (bit_of w j) (eqb j k))
