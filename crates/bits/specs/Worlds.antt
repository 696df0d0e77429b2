-- A set of worlds in a word of 32 bits.
use Rattle.std.specs.Prelude.{ℕ, ◌≡◌, ◌&&◌, List, ltb}
use Rattle.definition.specs.Lists.{filter, below, elem}
use Rattle.bits.specs.Bits.{bit_of}
use Rattle.bits.specs.declared.WorldSet.{WorldSet}

-- the numbers below n whose bit is set, rising
unfoldable pub set_below : ℕ → ℕ → List ℕ
set_below n word = filter (bit_of word) (below n)

-- the worlds of a word
unfoldable pub worlds_in : ℕ → List ℕ
worlds_in word = set_below 32 word

-- the empty set
abbrev pub no_world : WorldSet
no_world = record { 0 = 0 }

-- the word has the bits of the numbers of the list, which are below 32
pub record InWord (l : List ℕ) (word : ℕ) : Type 0 where
  pub same : (y : ℕ) → (ltb y 32 && bit_of word y) ≡ elem y l
