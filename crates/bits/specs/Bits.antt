-- A set of numbers below `leaf_count` in an array of `leaf_words` words of 32 bits.
use Rattle.std.specs.Prelude.{ℕ, ◌/◌, ◌%◌, ◌^◌, ◌<◌, ◌≡◌, Bool, List, length, get_or, eqb}
use Rattle.limits.specs.Arrays.{leaf_count, leaf_words}

-- bit k of a number
unfoldable pub bit_of : ℕ → ℕ → Bool
bit_of n k = eqb (n / 2 ^ k % 2) 1

-- bit i of an array of words
unfoldable pub bit_at : List ℕ → ℕ → Bool
bit_at a i = bit_of (get_or a (i / 32) 0) (i % 32)

-- the array has the bits of the set p
pub record Bits (p : ℕ → Bool) (a : List ℕ) : Type 0 where
  pub long : length a ≡ leaf_words
  pub same : (i : ℕ) → i < leaf_count → bit_at a i ≡ p i
