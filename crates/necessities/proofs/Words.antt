-- Laws of a word that has a bit for each number of a list.
use Prim.Native.Nat.{ℕ}
use mathlib.Core.Path.{◌≡◌, refl, sym}
use mathlib.Core.Bool.{Bool, true, false, ◌&&◌, ◌||◌}
use mathlib.Core.List.{List, [], ◌++◌}
use lib.Dec.{ltb}
use Rattle.bits.specs.Bits.{bit_of}
use Rattle.bits.specs.Worlds.{worlds_in, InWord}
use Rattle.bits.proofs.Words.{no_bit}
use Rattle.bits.proofs.Worlds.{worlds_elem}
use Rattle.definition.specs.Lists.{elem}
use Rattle.necessities.proofs.Tables.{elem_append}

module _ {l : List ℕ} {w : ℕ} (d : InWord l w) where
  -- the worlds of another word too
  pub word_union : (more v : ℕ) → ((k : ℕ) → bit_of v k ≡ (bit_of w k || bit_of more k)) → InWord (l ++ worlds_in more) v
  word_union more v put = record { same = same }
    where
      either : (a b c : Bool) → (a && (b || c)) ≡ ((a && b) || (a && c))
      either true b c = refl
      either false b c = refl

      same : (y : ℕ) → (ltb y 32 && bit_of v y) ≡ elem y (l ++ worlds_in more)
      same y = rw (put y, either (ltb y 32) (bit_of w y) (bit_of more y), d.same y, worlds_elem more y) (sym (elem_append y l (worlds_in more)))

-- no bit of zero is set
pub word_zero : InWord [] 0
word_zero = record { same = λ y. go y (ltb y 32) }
  where
    go : (y : ℕ) (t : Bool) → (t && bit_of 0 y) ≡ false
    go y true = no_bit y
    go y false = refl
